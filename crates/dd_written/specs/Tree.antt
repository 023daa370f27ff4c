-- The types of lexemes and of syntax trees, gathered in one place.
pub use Rattle.dd_written.specs.declared.{fault.ReadFault.ReadFault, lexeme.Word.Word, lexeme.Number.Number, lexeme.Mark.Mark}
pub use Rattle.dd_written.specs.declared.{lexeme.Lexeme.Lexeme, tree.Name.Name, tree.Term.Term, tree.Comparand.Comparand}
pub use Rattle.dd_written.specs.declared.{tree.Relation.Relation, tree.Atom.Atom, tree.Ball.Ball, tree.Quantifier.Quantifier}
pub use Rattle.dd_written.specs.declared.{tree.Join.Join, tree.Formula.Formula, tree.Formula.roll-Formula, tree.Formula.TheOpen.Formula-F}
pub use Rattle.dd_written.specs.declared.{tree.Formula.TheFolds.fold-Formula, tree.Formula.TheFolds.fold-roll-Formula}
pub use Rattle.dd_written.specs.declared.{tree.Formula.TheFolds.map-Formula, tree.Formula.TheFolds.ind-Formula}
