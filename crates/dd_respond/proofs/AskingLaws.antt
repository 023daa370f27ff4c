-- How a call changes the roster: first for a call that asks engines, then for a call that asks none.
use Rattle.std.proofs.{Common.List, Common.true, Common.false, Common.refl, lemmas.Bool.false≢true}
use Rattle.std.specs.Prelude.{IsTrue}
use Rattle.dd_engines.specs.Rounds.{Seen, FirstAsked}
use Rattle.dd_respond.specs.Asking.{Engages}

pub asks_boxes : (before after : List Seen) → FirstAsked before after → Engages (IsTrue true) before after
asks_boxes before after done = record { first = λ _. done; nobody = λ never. absurd (never refl) }

pub asks_nobody : (all : List Seen) → Engages (IsTrue false) all all
asks_nobody all = record { first = λ asks. absurd (false≢true asks); nobody = λ _. refl }
