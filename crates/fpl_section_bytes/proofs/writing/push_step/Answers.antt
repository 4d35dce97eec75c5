use Rattle.std.specs.Int.{w64, to_be_bytes}
use Rattle.fpl_bytes.specs.declared.version.Version.TheVariants.{Two}
use Rattle.fpl_section_bytes.specs.Tags.{close_tag}
use Rattle.fpl_section_bytes.specs.Spelling.{terms_bytes}
use Rattle.fpl_section_bytes.proofs.Written.{tag_and_two}
use Rattle.fpl_section_bytes.proofs.writing.push_step.Goals as goal

pub returns-in_ok-push_terms-in-Close-clause-bytes : goal.returns-in_ok-push_terms-in-Close-clause-bytes
returns-in_ok-push_terms-in-Close-clause-bytes c =
    rw c.in-Close.is
    (tag_and_two c.args.out.now.items c.push-in-Close.new.self.items c.push_u64.new.out.items c.push_terms-in-Close.new.out.items close_tag
    (to_be_bytes w64 c.in-Close.of) (terms_bytes Two c.args.kind c.in-Close.terms)
    c.in_ok-push-in-Close.ensures.items c.in_ok-push_u64-in-Close.ensures c.in_ok-push_terms-in-Close.ensures.bytes)
