use mir.Facts.{to_z-of_z}
use mir.Syntax.{w64}
use borrow.Author.Rules.{rules}
use Rattle.load_bytes.proofs.Lists.{loads-read, imports-read, generation-read, parts-read, contracts-read, tranches-read}
use Rattle.load_bytes.proofs.given_in.Goals as goal

pub returns : goal.returns
returns c = let g = c.args.given in let list = c.args.list.now in let h = c.requires in
    simp (
      to_z-of_z {w = w64} {z = g.metered} (search rules),
      to_z-of_z {w = w64} {z = g.distributor} (search rules),
      to_z-of_z {w = w64} {z = g.areas} (search rules),
      loads-read g list h.0 h.1,
      imports-read g list h.0 h.1,
      generation-read g list h.0 h.1,
      parts-read g list h.0 h.1,
      contracts-read g list h.0 h.1,
      tranches-read g list h.0 h.1,
    )
