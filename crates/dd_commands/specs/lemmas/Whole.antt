-- A part is read exactly when it has no stray token and is a command of stage `from` or higher.
use Rattle.std.proofs.Common.{◌≡◌, ℕ, List, Some, refl, sym, ap, subst, nat_le, leb-true, le-leb, ◌&&◌}
use Rattle.std.{specs.List.list_all, proofs.lemmas.Bool.and_parts, proofs.lemmas.Option.cond_some}
use Rattle.dd_commands.specs.{Tree.Lexeme, Tree.Command, Tree.Written, Heads.head_of, Heads.stage, Scripts.is_whole, Scripts.MayStand}
use Rattle.dd_written.specs.{reading.Laws.FormulasAreRead, lemmas.Options.bind_some}
use Rattle.dd_commands.specs.reading.{Commands.command_of, Parts.written_of}
use Rattle.dd_commands.specs.lemmas.Commands.{command_sound, command_again}

abbrev with_tokens : List Lexeme → Command → Written
with_tokens tokens c = record { tokens = tokens; command = c }

module _ (law : FormulasAreRead) (bytes : List ℕ) (from : ℕ) (part : List Lexeme) (w : Written) where
  pub written_sound : written_of bytes from part ≡ Some w → MayStand bytes from part w
  written_sound e =
      let c = bind_some (command_of bytes part) _ w e in
      let fits = cond_some (list_all is_whole part && nat_le from (stage (head_of c.0))) (with_tokens part c.0) w c.2 in
      let each = and_parts (list_all is_whole part) (nat_le from (stage (head_of c.0))) fits.0 in
      subst (MayStand bytes from part) fits.1 (record { tokens = refl; whole = each.0; is = command_sound law bytes part c.0 c.1; ordered = leb-true _ _ each.1 })

  pub written_again : MayStand bytes from part w → written_of bytes from part ≡ Some w
  written_again may =
      rw (command_again law bytes part w.command may.is, may.whole, le-leb _ _ may.ordered)
      (ap (λ (ts : List Lexeme). Some (with_tokens ts w.command)) (sym may.tokens))
