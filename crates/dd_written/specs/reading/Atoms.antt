-- Readers of atoms, and of what stands before the body of a quantified formula.
use Rattle.std.specs.Prelude.{List, [], ◌∷◌, Some, None}
use Rattle.dd_written.specs.Tree.{Word, Mark, Lexeme, Name, Term, Comparand, Relation, Ball, Formula, roll-Formula, Formula-F}
use Rattle.dd_written.specs.reading.Readers.{◌>>=◌, Reader}

abbrev pub name_at : Reader Name
name_at (Lexeme.Word w ∷ tokens) = Some (Name.Word w, tokens)
name_at (Lexeme.Number n ∷ tokens) = Some (Name.Number n, tokens)
name_at tokens = None

-- the moves at the front of the tokens, and the tokens after them
abbrev pub moves_at : List Lexeme → List Word × List Lexeme
moves_at (Lexeme.Mark Mark.Dot ∷ Lexeme.Word label ∷ tokens) = (label ∷ (moves_at tokens).0, (moves_at tokens).1)
moves_at tokens = ([], tokens)

abbrev pub term_at : Reader Term
term_at (Lexeme.Word first ∷ tokens) = Some (record { first = first; moves = (moves_at tokens).0 }, (moves_at tokens).1)
term_at tokens = None

abbrev pub comparand_at : Reader Comparand
comparand_at (Lexeme.Number n ∷ tokens) = Some (Comparand.Number n, tokens)
comparand_at tokens = do
  t ← term_at tokens
  Some (Comparand.Term t.0, t.1)

abbrev pub relation_at : Reader Relation
relation_at (Lexeme.Mark Mark.Equal ∷ tokens) = do
  s ← comparand_at tokens
  Some (Relation.Equal s.0, s.1)
relation_at (Lexeme.Mark Mark.NotEqual ∷ tokens) = do
  s ← comparand_at tokens
  Some (Relation.NotEqual s.0, s.1)
relation_at (Lexeme.Mark Mark.Tilde ∷ tokens) = do
  t ← term_at tokens
  Some (Relation.Adjacent t.0, t.1)
relation_at (Lexeme.Mark Mark.At ∷ tokens) = do
  t ← term_at tokens
  Some (Relation.Same t.0, t.1)
relation_at (Lexeme.Mark Mark.Colon ∷ tokens) = do
  n ← name_at tokens
  Some (Relation.AtNode n.0, n.1)
relation_at tokens = None

-- an atom, as a formula
abbrev pub atom_at : Reader Formula
atom_at tokens = do
  t ← term_at tokens
  r ← relation_at t.1
  Some (roll-Formula (Formula-F.Atom (record { term = t.0; relation = r.0 })), r.1)

-- the balls at the front of the tokens, and the tokens after them
abbrev pub balls_at : List Lexeme → List Ball × List Lexeme
balls_at (Lexeme.Word centre ∷ Lexeme.Number radius ∷ tokens) = (record { centre = centre; radius = radius } ∷ (balls_at tokens).0, (balls_at tokens).1)
balls_at tokens = ([], tokens)

-- reads the `]` after the balls of a quantifier; there must be at least one ball
abbrev pub quantifier_end : Word → List Ball → Reader (Word × List Ball)
quantifier_end variable [] tokens = None
quantifier_end variable (b ∷ bs) (Lexeme.Mark Mark.CloseList ∷ tokens) = Some ((variable, b ∷ bs), tokens)
quantifier_end variable (b ∷ bs) tokens = None

-- the variable and the balls of a quantifier, after its `A` or `E`
abbrev pub quantifier_at : Reader (Word × List Ball)
quantifier_at (Lexeme.Word variable ∷ Lexeme.Mark Mark.OpenList ∷ tokens) = quantifier_end variable (balls_at tokens).0 (balls_at tokens).1
quantifier_at tokens = None
