-- The types of syntax trees and of what a script has defined so far, in one place. This module declares nothing of its own.
pub use Rattle.dd_written.specs.declared.{lexeme.Word.Word, lexeme.Number.Number, tree.Name.Name}
pub use Rattle.dd_commands.specs.declared.{table.Role.Role, table.Lists.Lists, table.QueryKind.QueryKind, command.Entry.Entry}
pub use Rattle.dd_commands.specs.declared.{command.Vector.Vector, command.Request.Request}
pub use Rattle.dd_known.specs.declared.{known.Known.Known, known.Context.Context}
