use Rattle.std.proofs.Common.{refl}
use Rattle.dd_script.proofs.parsing.parse.Goals as goal

pub script_of-requires-clause-written : goal.script_of-requires-clause-written
script_of-requires-clause-written c = let is = c.in_ok-text.ensures.tells in (refl, rw (c.as_slice.ensures, is.0) is.1)
