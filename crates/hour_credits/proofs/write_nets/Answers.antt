use mathlib.Core.Path.{◌≡◌, ap, ◌∙◌}
use native.Mathlib.Omega.{arith}
use mir.Syntax.{w64}
use mir.Val.{to_z, of_z}
use mir.Facts.{to_z-of_z}
use borrow.Author.Rules.{rules, sfits_of}
use Rattle.ints.specs.Table.{tab}
use Rattle.ints.proofs.Sizes.{w-read}
use Rattle.ints.proofs.Tables.{tab-none, tab-store, tab-done}
use Rattle.hour.specs.InsideTotals.{net_at, netted}
use Rattle.hour_credits.proofs.write_nets.Goals as goal
use Rattle.hour_credits.proofs.write_nets.Goals.{After-struct_told-1}

-- the net is that of the definition
net-is : (c : After-struct_told-1) → let a = c.args in to_z w64 (of_z w64 c.net_of.result.0) ≡ net_at a.congestion_charges.now a.loss_charges.now a.credit.now c.loop-i.i
net-is c = let p = c.requires.in_range in
    let i = c.loop-i.i in
    to_z-of_z {w = w64} (sfits_of c.struct_told-1.given.0.1) ∙ c.net_of.ensures ∙ simp (w-read (p.0.each i) tt, w-read (p.1.each i) tt, w-read (p.2.each i) tt)

pub loop-i-init : goal.loop-i-init
loop-i-init c = tab-none _

pub loop-i-preserved : goal.loop-i-preserved
loop-i-preserved c = tab-store _ c.loop-i.net c.loop-i.i _ (search rules) (net-is c) c.loop-i.invariant

pub returns : goal.returns
unfolding netted
returns c = let a = c.args in
    tab-done (net_at a.congestion_charges.now a.loss_charges.now a.credit.now) c.loop-i.net c.loop-i.i (omega arith) c.loop-i.invariant ∙ ap (tab (net_at a.congestion_charges.now a.loss_charges.now a.credit.now)) (omega arith)
