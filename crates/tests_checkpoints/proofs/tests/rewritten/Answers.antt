use Rattle.fpl_section_bytes.proofs.Writable.{stored_is_writable}
use Rattle.tests_checkpoints.proofs.tests.rewritten.Goals as goal

pub section_bytes-requires : goal.section_bytes-requires
section_bytes-requires c = stored_is_writable _ _ c.in_ok-section.ensures.found.0
