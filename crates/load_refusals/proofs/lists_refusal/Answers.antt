use mathlib.Core.Path.{sym}
use Rattle.load.proofs.Accepted.{Counted, counted, measured, in-ranges, areas-of}
use Rattle.load_refusals.proofs.lists_refusal.Goals as goal
use Rattle.load_refusals.proofs.lists_refusal.Goals.{In_ok-counts_refusal}

pub counts : (c : In_ok-counts_refusal) → let d = c.args.given in Counted d.loads.now d.imports.now d.generation.now d.areas d.contracts.now
counts c = counted _ _ _ _ _ (sym c.in_ok-counts_refusal.ensures)

pub lengths_refusal-requires : goal.lengths_refusal-requires
lengths_refusal-requires c = ((counts c).few, record { within = (counts c).areas-few })

pub identities_refusal-requires : goal.identities_refusal-requires
identities_refusal-requires c = record { within = (counts (goal.at.identities_refusal-requires c).In_ok-counts_refusal).areas-few }

pub areas_refusal-requires : goal.areas_refusal-requires
areas_refusal-requires c = let d = c.args.given in
    areas-of (counts (goal.at.areas_refusal-requires c).In_ok-counts_refusal)
    (measured d.loads.now d.areas d.area_parts.now d.contracts.now d.tranches.now c.args.n (sym c.in_ok-lengths_refusal.ensures))
    (in-ranges d.metered d.loads.now d.imports.now d.generation.now d.area_parts.now d.contracts.now d.tranches.now (sym c.in_ok-ranges_refusal.ensures))
