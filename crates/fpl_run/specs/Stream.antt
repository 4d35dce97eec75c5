-- The bytes of a checkpoint.
--   stream_text p sections: the head of a presentation, and then the sections of its weights from 1 on, in version 2
use Rattle.std.specs.Prelude.{ℕ, List}
use Rattle.fpl_log.specs.declared.section.Section.{Section}
use Rattle.fpl_model.specs.declared.presentation.Presentation.{Presentation}
use Rattle.fpl_bytes.specs.declared.version.Version.TheVariants.{Two}
use Rattle.plain_streams.specs.Streams.{stream_of}

unfoldable pub stream_text : Presentation → List Section → List ℕ
stream_text p sections = stream_of Two p sections
