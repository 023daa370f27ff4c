use Rattle.std.proofs.{Common.length, Common.refl, Common.arith, lemmas.List.length-map}
use Rattle.dd_written.specs.Values.{name_text}
use Rattle.dd_known.specs.Known.{dimension_of}
use Rattle.dd_meanings.proofs.{Nothing.parts, HeaderLaws.names_are, HeaderLaws.default_sound}
use Rattle.dd_meanings.proofs.header.nodes.Goals as goal

pub returns : goal.returns
returns c =
    let x = c.args.context.now in
    let names = c.args.names.now in
    let count = length-map names (name_text x.text) in
    let is = rw (c.dim-dimension.ensures.value, c.count.ensures.number, c.in_ok-nodes.ensures, count) at c.in_ok-topology.ensures in (
      rw (is, c.in_ok-nodes.ensures) (refl, refl),
      (
        names_are x.text 4 names c.in_ok-nodes.nodes c.in_ok-nodes.ensures c.requires.some (grind (arith, parts)) c.count.ensures.distinct,
        rw count (default_sound (dimension_of x.known) (length names) c.in_ok-topology.topology c.dim-dimension-2.ensures.grid is),
      ),
    )
