-- Reasons in words.
--
--   byte_text   why bytes are no checkpoint
use Rattle.std.specs.Prelude.{ℕ, List, codes}
use Rattle.fpl_bytes.specs.declared.fault.ByteWhy.{ByteWhy}
use Rattle.fpl_bytes.specs.declared.fault.ByteWhy.TheVariants.{NotCheckpoint, HeadCut, UnknownVersion, HeadText, SectionWeight, FieldCut, BadTag, BadNumber, UnreadBytes}

abbrev pub byte_text : ByteWhy → List ℕ
byte_text NotCheckpoint = codes "not a checkpoint"
byte_text HeadCut = codes "head cut"
byte_text UnknownVersion = codes "unknown version"
byte_text HeadText = codes "head text"
byte_text SectionWeight = codes "section weight"
byte_text FieldCut = codes "field cut"
byte_text BadTag = codes "bad tag"
byte_text BadNumber = codes "bad number"
byte_text UnreadBytes = codes "unread bytes"
