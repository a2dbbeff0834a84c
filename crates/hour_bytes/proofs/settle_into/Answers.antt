use mathlib.Core.Path.{◌≡◌, sym, ap, ◌∙◌}
use Prim.Native.Nat.{ℕ, ◌*◌}
use lib.ListN.{length}
use Rattle.std.proofs.lemmas.Result.{err_from_is_err_and}
use Rattle.ints.proofs.Refusals.{lent-result}
use Rattle.refusals.specs.Number.{answer}
use Rattle.numbers.specs.Bytes.{encoded}
use Rattle.exercise.specs.File.{hour_of}
use Rattle.exercise.specs.Order.{in_bytes, hour_refusal}
use Rattle.exercise.proofs.Order.{four}
use Rattle.hour_bytes.specs.Inside.{hourly}
use Rattle.hour_bytes.proofs.Hours.{settled-refusal, bytes, numbers-in}
use Rattle.hour_bytes.proofs.settle_into.Goals as goal
use Rattle.hour_bytes.proofs.settle_into.Goals.{After-settle, Start}

-- the arguments, after the hour was settled
abbrev given : After-settle → Start
given t = (goal.at.After-settle t).Start

told : (t : After-settle) → let s = given t in
    answer t.settle.result ≡ hour_refusal in_bytes s.args.file.now (four (length s.args.congestion.now) (length s.args.loss.now) (length s.args.credit.now) (length s.args.net.now))
told t = let s = given t in
    t.settle.ensures.value ∙ settled-refusal _ _ _ _ _ _ _ _ _ s.requires.congestion_cents_len.0 s.requires.congestion_cents_len.1 s.requires.congestion_cents_len.2 s.requires.congestion_cents_len.3

-- where it was accepted: every slice has eight bytes for each number of its list
module _ (t : After-settle) (accepted : answer t.settle.result ≡ 0) where
  abbrev count : ℕ
  count = (hour_of (given t).args.file.now).participants

  all : let s = given t in
      (length s.args.congestion.now ≡ 8 * count) × (length s.args.loss.now ≡ 8 * count) × (length s.args.credit.now ≡ 8 * count) × (length s.args.net.now ≡ 8 * count)
  all = bytes _ _ _ _ _ (sym (told t) ∙ accepted)

  bytes-eight : {n lent made : ℕ} → n ≡ 8 * count → lent ≡ hourly n → made ≡ lent → n ≡ 8 * made
  bytes-eight e h k = e ∙ ap (λ (n : ℕ). 8 * n) (sym (k ∙ h ∙ numbers-in (given t).args.file.now 0 0 0 0 e))

pub returns-in_err-settle-clause-value : goal.returns-in_err-settle-clause-value
returns-in_err-settle-clause-value c = let p = err_from_is_err_and c.from_residual.result c.from_residual.ensures.1 in
    rw (p.1, p.2) (sym (ap answer c.in_err-settle.was) ∙ told (goal.at.returns-in_err-settle-clause-value c).After-settle)

pub write_all-requires : goal.write_all-requires
write_all-requires c = let t = (goal.at.write_all-requires c).After-settle in let z = ap answer c.in_ok-settle.was in
    bytes-eight t z (all t z).0 (given t).requires.congestion_cents_len.0 t.settle.auto.congestion

pub write_all-requires-2 : goal.write_all-requires-2
write_all-requires-2 c = let t = (goal.at.write_all-requires-2 c).After-settle in let z = ap answer c.in_ok-settle.was in
    bytes-eight t z (all t z).1 (given t).requires.congestion_cents_len.1 t.settle.auto.loss

pub write_all-requires-3 : goal.write_all-requires-3
write_all-requires-3 c = let t = (goal.at.write_all-requires-3 c).After-settle in let z = ap answer c.in_ok-settle.was in
    bytes-eight t z (all t z).2 (given t).requires.congestion_cents_len.2 t.settle.auto.credit

pub write_all-requires-4 : goal.write_all-requires-4
write_all-requires-4 c = let t = (goal.at.write_all-requires-4 c).After-settle in let z = ap answer c.in_ok-settle.was in
    bytes-eight t z (all t z).3 (given t).requires.congestion_cents_len.3 t.settle.auto.net

pub returns : goal.returns
returns c = let t = (goal.at.returns c).After-settle in let z = ap answer c.in_ok-settle.was in
    let e = t.settle.ensures in
    let congestion-is = e.congestion_after ∙ lent-result _ _ _ z in
    let loss-is = e.loss_after ∙ lent-result _ _ _ z in
    let credit-is = e.credit_after ∙ lent-result _ _ _ z in
    let net-is = e.net_after ∙ lent-result _ _ _ z in record {
      value = sym z ∙ told t;
      congestion_after = c.write_all.ensures ∙ ap encoded congestion-is;
      loss_after = c.write_all-2.ensures ∙ ap encoded loss-is;
      credit_after = c.write_all-3.ensures ∙ ap encoded credit-is;
      net_after = c.write_all-4.ensures ∙ ap encoded net-is;
    }
