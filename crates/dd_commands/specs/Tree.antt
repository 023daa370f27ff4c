-- The types of syntax trees, from words to scripts, gathered in one place. This module declares nothing of its own.
pub use Rattle.dd_topology.specs.declared.{builtin.Kind.Kind}
pub use Rattle.dd_written.specs.declared.{lexeme.Word.Word, lexeme.Number.Number, lexeme.Mark.Mark, lexeme.Lexeme.Lexeme, tree.Name.Name}
pub use Rattle.dd_written.specs.declared.{tree.Formula.Formula}
pub use Rattle.dd_commands.specs.declared.{table.Role.Role, table.Lists.Lists, table.QueryKind.QueryKind, head.Head.Head, command.Entry.Entry}
pub use Rattle.dd_commands.specs.declared.{command.Vector.Vector, command.Edge.Edge, command.Case.Case, command.Request.Request}
pub use Rattle.dd_commands.specs.declared.{command.Command.Command, script.Written.Written, script.Syntax.Syntax}
pub use Rattle.dd_commands.specs.declared.{fault.SyntaxFault.SyntaxFault}
