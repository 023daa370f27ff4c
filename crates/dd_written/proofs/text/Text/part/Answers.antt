-- A part of an ASCII text is ASCII.
use Rattle.std.proofs.lemmas.Str.{IsUtf8-from_ascii, IsAscii-take, IsAscii-drop}
use Rattle.dd_written.proofs.text.Text.part.Goals as goal

pub unreachable-requires : goal.unreachable-requires
unreachable-requires c = c.in-Err.ensures.cases.0 (rw (c.part.ensures, c.as_slice.ensures) (IsUtf8-from_ascii _ (IsAscii-take _ _ (IsAscii-drop _ _ c.self.invariant))))
