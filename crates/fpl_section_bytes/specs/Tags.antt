-- The tags of a payload, each a byte.
--
--   insert_tag, close_tag                what an Insert step and a Close step begin with
--   relation_tag, jacobi_tag, cube_tag   what an origin begins with: the letters R, J and C
use Rattle.std.specs.Prelude.{ℕ}

abbrev pub insert_tag : ℕ
insert_tag = 1

abbrev pub close_tag : ℕ
close_tag = 2

abbrev pub relation_tag : ℕ
relation_tag = 0x52

abbrev pub jacobi_tag : ℕ
jacobi_tag = 0x4a

abbrev pub cube_tag : ℕ
cube_tag = 0x43
