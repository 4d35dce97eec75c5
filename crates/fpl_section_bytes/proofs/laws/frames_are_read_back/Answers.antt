use Rattle.fpl_section_bytes.proofs.Framed.{frame_found, frame_stands}
use Rattle.fpl_section_bytes.proofs.laws.frames_are_read_back.Goals as goal

pub returns-clause-found : goal.returns-clause-found
returns-clause-found c = frame_found

pub returns-clause-stands : goal.returns-clause-stands
returns-clause-stands c = frame_stands
