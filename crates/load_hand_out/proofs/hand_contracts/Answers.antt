use Rattle.load.proofs.Handed.{contracts-none, contracted-none, contracts-next, contracted-next, tables-of}
use lib.ListN.{length}
use mathlib.Core.Path.{refl, ◌∙◌}
use borrow.Author.Rules.{rules}
use Rattle.load_hand_out.proofs.hand_contracts.Goals as goal

pub loop-j-init : goal.loop-j-init
loop-j-init c = (contracts-none c.args.n c.args.area_parts.now c.args.contracts.now, contracted-none c.args.n c.args.area_parts.now c.args.contracts.now, refl)

pub hand_contract-requires : goal.hand_contract-requires
hand_contract-requires c = record {
  contracts = (c.requires.contracts, search rules);
  room_in_tables = (tables-of c.args.n c.args.area_parts.now c.args.contracts.now c.requires.contracts c.loop-j.j (search rules) c.requires.empty c.loop-j.invariant.0 c.loop-j.invariant.1, c.loop-j.invariant.2);
}

pub loop-j-preserved : goal.loop-j-preserved
loop-j-preserved c = (contracts-next c.args.n c.args.area_parts.now c.args.contracts.now c.loop-j.j c.loop-j.invariant.0 c.hand_contract.ensures.added_cells, contracted-next c.args.n c.args.area_parts.now c.args.contracts.now c.loop-j.j c.loop-j.invariant.1 c.hand_contract.ensures.added_cells_2, c.hand_contract.auto.made ∙ c.loop-j.invariant.2)
