-- The types of syntax trees, of what a script has said before a command, and of faults, in one place. This module declares nothing of its own.
pub use Rattle.dd_topology.specs.declared.{builtin.Kind.Kind}
pub use Rattle.dd_written.specs.declared.{lexeme.Word.Word, lexeme.Number.Number, lexeme.Lexeme.Lexeme, tree.Name.Name, tree.Term.Term}
pub use Rattle.dd_written.specs.declared.{tree.Comparand.Comparand, tree.Relation.Relation, tree.Atom.Atom, tree.Ball.Ball}
pub use Rattle.dd_written.specs.declared.{tree.Quantifier.Quantifier, tree.Join.Join, tree.Formula.Formula, tree.Formula.TheOpen.Formula-F}
pub use Rattle.dd_written.specs.declared.{tree.Formula.TheFolds.fold-Formula, tree.Formula.TheFolds.fold-roll-Formula}
pub use Rattle.dd_written.specs.declared.{tree.Formula.TheFolds.map-Formula, tree.Formula.TheFolds.ind-Formula}
pub use Rattle.dd_commands.specs.declared.{command.Entry.Entry, command.Vector.Vector, command.Edge.Edge, command.Case.Case}
pub use Rattle.dd_commands.specs.declared.{command.Command.Command, script.Written.Written}
pub use Rattle.dd_known.specs.declared.{known.Setting.Setting, known.Known.Known, known.Context.Context}
pub use Rattle.dd_faults.specs.declared.{fault.Limit.Limit, fault.Fault.Fault, fault.Refusal.Refusal}
