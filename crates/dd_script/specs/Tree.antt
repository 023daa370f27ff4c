-- Types of other crates, re-exported from one place: tokens, syntax trees, the contexts of commands, faults and limits. This module declares nothing
-- of its own.
pub use Rattle.dd_written.specs.declared.{lexeme.Lexeme.Lexeme}
pub use Rattle.dd_commands.specs.declared.{head.Head.Head, command.Command.Command, script.Written.Written, script.Syntax.Syntax}
pub use Rattle.dd_commands.specs.declared.{fault.SyntaxFault.SyntaxFault}
pub use Rattle.dd_known.specs.declared.known.Context.{Context}
pub use Rattle.dd_faults.specs.declared.{fault.Limit.Limit, fault.Fault.Fault}
