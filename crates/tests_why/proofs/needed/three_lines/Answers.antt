use Rattle.std.proofs.Common.{◌≡◌, length, ap, subst, ◌∙◌, arith}
use Rattle.std.proofs.lemmas.List.{length-take-le}
use Rattle.fpl_needed.specs.Needed.{IsDistinctProof}
use Rattle.tests_why.proofs.needed.three_lines.Goals as goal

pub returns : goal.returns
returns c =
    let e : c.members.new.self.presentation ≡ c.args.p.now =
    c.in_ok-third.ensures.grows.presentation ∙ c.in_ok-second.ensures.grows.presentation ∙ c.in_ok-same.ensures.grows.presentation
    ∙ c.new-ledger.ensures.presentation in
    let says = c.in_ok-third.ensures.says in
    let long : length c.into_proof.result ≡ c.in_ok-third.third =
    ap length c.into_proof.ensures.lines ∙ length-take-le c.in_ok-third.third c.members.new.self.lines says.to_end in
    subst (λ r. IsDistinctProof r c.into_proof.result) e record {
      some = omega (arith, long, says.from_one);
      proof = c.into_proof.ensures.proof;
      over = c.into_proof.ensures.over;
      distinct = c.into_proof.ensures.distinct;
    }
