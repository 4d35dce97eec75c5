use Rattle.std.proofs.Common.{refl}
use Rattle.fpl_section_bytes.proofs.Bodies.{payload_takes, payload_again}
use Rattle.fpl_section_bytes.proofs.Writable.{stored_is_writable}
use Rattle.fpl_section_bytes.proofs.laws.sections_are_read_back.Goals as goal

pub returns-clause-taken : goal.returns-clause-taken
returns-clause-taken c = payload_takes

pub returns-clause-again : goal.returns-clause-again
returns-clause-again c = λ version kind end s fits. payload_again version kind s.weight end s fits refl

pub returns-clause-writable : goal.returns-clause-writable
returns-clause-writable c = stored_is_writable
