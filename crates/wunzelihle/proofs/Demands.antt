-- What document 00 demands of the calls of the C server, in its own words, what document 02 promises of writing a file (ticket 1) and of transactions with a seller (ticket 2),
-- and that a cause tells the refusal's own number: read this page first.
--
-- `F.Post κs args answer exit` is the contract of call F, and rt proves of its code that every call which meets `F.Pre` ends and leaves `F.Post`:
-- `args` are the arguments, `answer` is 0 where the call is accepted and else its refusal, `exit` has the lent slices as they are left.
-- A slice is its bytes, and `numbers` is the list that they stand for: "eight bytes a number, two's complement, lowest byte first".
-- `Bytes` says that what a slice holds are bytes, as every slice does. Slices that are lent to be read can't be changed; those that are lent to be written are named before and after the call.
-- The definitions stand in the specs/ that are named below. The check of a file, its reader, the decoding of a row and the statement are entries, too: each one's contract
-- is one definition, of crates `exercise` and `statement`. Assumes nothing.
use mathlib.Core.Path.{◌≡◌, refl, sym, ap, ap₂, ◌∙◌, subst}
use mathlib.Core.Logic.{◌⊎◌}
use mathlib.Core.Bool.{false}
use mathlib.Core.List.{List, [], ◌∷◌, map, ◌++◌}
use Prim.Native.Nat.{ℕ, ◌+◌, ◌*◌, ◌/◌, ◌≤◌, ◌<◌}
use contract.Lifetimes.{Lfts}
use lib.IntN.{ℤ, pos, ◌+ℤ◌, ◌-ℤ◌}
use lib.ListN.{length, drop}
use Rattle.ints.specs.Number.{between}
use Rattle.ints.specs.Sum.{sum}
use Rattle.ints.specs.Table.{◌at◌}
use Rattle.ints.proofs.Refusals.{lent-result, lent-before}
use Rattle.numbers.specs.Bytes.{Bytes, numbers, encoded}
use Rattle.units.specs.Units.{cents_of}
use Rattle.split.specs.Fair.{Fair}
use Rattle.split.specs.Split as split
use Rattle.split.proofs.Demand3 as split-laws
use Rattle.split.proofs.Sizes.{parts_within}
use Rattle.load.specs.Fair.{FairLoad}
use Rattle.load.specs.Load.{LoadGiven, assignment}
use Rattle.load.specs.Order.{load_refusal}
use Rattle.load.proofs.Kilowatts.{assignment-within}
use Rattle.load.proofs.Theorems.{demand-3}
use Rattle.hour.specs.Cause.{Cause, cause_numbers}
use Rattle.hour.specs.Charges as hour
use Rattle.hour.specs.Hour.{Hour, all_prices, congestion_prices, loss_prices, position_of, positions, with_transaction}
use Rattle.hour.specs.InsideTested.{Sound}
use Rattle.hour.specs.Order.{outputs_refusal, surplus_refusal, transaction_refusal}
use Rattle.hour.specs.Surplus as surplus
use Rattle.hour.specs.declared.Edition.TheVariants as Edition
use Rattle.hour.specs.declared.Transaction.{Transaction}
use Rattle.hour.proofs.Each.{congestion-at, loss-at, net-at}
use Rattle.hour.proofs.Tested.{transaction-tested}
use Rattle.hour.proofs.Theorems as hour-laws
use Rattle.exercise.specs.Cause.{hour_cause, given_cause, file_numbers, given_numbers, cause_refusal}
use Rattle.exercise.specs.File.{header, edition_in, hour_of}
use Rattle.exercise.specs.Layout.{transaction_size, edition_of}
use Rattle.exercise.specs.Lists.{Content, content, participants_of, count_numbers, file_counts_refusal, hour_given, lists_refusal, write_refusal, write_outcome, read_refusal, row_numbers, transaction_numbers, in_turns, prices_listed, rows_listed, transactions_listed, content_of, Holds}
use Rattle.exercise.specs.Order.{in_bytes, frame_refusal, file_refusal, hour_refusal}
use Rattle.exercise.specs.Written.{file_of, FitsFields}
use Rattle.exercise.proofs.Accepted.{settled-sound, settled-accepts}
use Rattle.exercise.proofs.Causes as causes
use Rattle.exercise.proofs.Lists as lists
use Rattle.exercise.proofs.Round as round
use Rattle.wunzelihle.specs.Load.{load_bytes_given, load_bytes_refusal}
use Rattle.wunzelihle.specs.Split.{split_bytes_refusal}
use Rattle.wunzelihle.specs.Version.{version}
use Rattle.wunzelihle.proofs.InsideDemands.{unchanged, holds, fair-of, split-accepts, load-accepts}
use Rattle.wunzelihle.proofs.Unique.{wz-split-unique, wz-assign-load-unique, wz-settle-hour-unique, wz-write-file-unique, wz-read-file-unique, wz-counts-unique, wz-find-cause-unique, wz-find-list-cause-unique}
use Rattle.wunzelihle.proofs.wz_assign_load.Reads as wz-assign-load
use Rattle.wunzelihle.proofs.wz_counts.Reads as wz-counts
use Rattle.wunzelihle.proofs.wz_find_cause.Reads as wz-find-cause
use Rattle.wunzelihle.proofs.wz_find_list_cause.Reads as wz-find-list-cause
use Rattle.wunzelihle.proofs.wz_participants.Reads as wz-participants
use Rattle.wunzelihle.proofs.wz_read_file.Reads as wz-read-file
use Rattle.wunzelihle.proofs.wz_settle_hour.Reads as wz-settle-hour
use Rattle.wunzelihle.proofs.wz_split.Reads as wz-split
use Rattle.wunzelihle.proofs.wz_version.Reads as wz-version
use Rattle.wunzelihle.proofs.wz_write_file.Reads as wz-write-file

-- ==== demand 1, of all ten: "Every public entry takes every file, list and number that can be handed to it, and ends."

pub split-takes-all : (κs : Lfts 2) (args : _) → wz-split.Pre κs args
split-takes-all κs args = tt

pub load-takes-all : (κs : Lfts 7) (args : _) → wz-assign-load.Pre κs args
load-takes-all κs args = tt

pub hour-takes-all : (κs : Lfts 5) (args : _) → wz-settle-hour.Pre κs args
hour-takes-all κs args = tt

pub write-takes-all : (κs : Lfts 4) (args : _) → wz-write-file.Pre κs args
write-takes-all κs args = tt

pub read-takes-all : (κs : Lfts 4) (args : _) → wz-read-file.Pre κs args
read-takes-all κs args = tt

pub version-takes-all : (args : _) → wz-version.Pre tt args
version-takes-all args = tt

pub participants-takes-all : (κs : Lfts 1) (args : _) → wz-participants.Pre κs args
participants-takes-all κs args = tt

pub counts-takes-all : (κs : Lfts 2) (args : _) → wz-counts.Pre κs args
counts-takes-all κs args = tt

pub find-takes-all : (κs : Lfts 2) (args : _) → wz-find-cause.Pre κs args
find-takes-all κs args = tt

pub find-list-takes-all : (κs : Lfts 4) (args : _) → wz-find-list-cause.Pre κs args
find-list-takes-all κs args = tt

-- ==== wz_split

module _ (κs : Lfts 2) (args : _) (answer : ℕ) (exit : _) (post : wz-split.Post κs args answer exit) where
  abbrev amount : ℤ
  amount = args.0

  abbrev shares : List ℤ
  shares = numbers args.1.0.now

  -- the slice lent for the parts, before the call and after it
  abbrev parts_before : List ℕ
  parts_before = args.1.1.0.now

  abbrev parts_after : List ℕ
  parts_after = exit.1.1.0.now

  -- Demand 1: "one refusal by number for exactly the reasons listed in document 01, in the order listed there"
  pub split-answer : answer ≡ split_bytes_refusal amount args.1.0.now (length parts_before)
  split-answer = post.0

  -- .. one: whatever the contract allows for these arguments is the same
  pub split-one-result : (other : ℕ) (there : _) → wz-split.Post κs args other there → (answer ≡ other) × (parts_after ≡ there.1.1.0.now)
  split-one-result other there q = wz-split-unique κs args answer other exit there post q

  -- "A refused call changes nothing it was lent."
  pub split-unchanged : (answer ≡ 0 → ⊥) → parts_after ≡ parts_before
  split-unchanged = unchanged (split.parts amount shares) parts_before post.0 post.1

  module _ (accepted : answer ≡ 0) where
    -- the same order over lists gives 0
    split-accepted : split.split_refusal amount shares (length parts_before / 8) ≡ 0
    split-accepted = split-accepts amount args.1.0.now (length parts_before) (sym post.0 ∙ accepted)

    -- "It gives the whole result": the bytes are read back as the parts, so each fits 64 bits and none wrapped
    pub split-whole : numbers parts_after ≡ split.parts amount shares
    split-whole = holds (split.parts amount shares) parts_before post.0 post.1 accepted (parts_within amount shares _ split-accepted) tt

    -- Demand 3: "Take any amount to be split, above, below or at zero, within the limits, over shares that aren't all zero. ..": its sentences are the fields of `Fair`
    pub split-fair : Fair amount shares (numbers parts_after)
    split-fair = fair-of (split-laws.fair amount shares _ split-accepted) refl split-whole

-- ==== wz_assign_load

module _ (κs : Lfts 7) (args : _) (answer : ℕ) (exit : _) (post : wz-assign-load.Post κs args answer exit) where
  -- f of the nine that are given: metered, distributor, loads, imports, generation, areas, their parts, contracts, tranches
  abbrev of_given : {A : Type 0} → (ℤ → ℤ → List ℕ → List ℕ → List ℕ → ℤ → List ℕ → List ℕ → List ℕ → A) → A
  of_given f = f args.0 args.1.0 args.1.1.0.now args.1.1.1.0.now args.1.1.1.1.0.now args.1.1.1.1.1.0 args.1.1.1.1.1.1.0.now args.1.1.1.1.1.1.1.0.now args.1.1.1.1.1.1.1.1.0.now

  abbrev given : LoadGiven
  given = of_given load_bytes_given

  -- the slice lent for the result
  abbrev table_before : List ℕ
  table_before = args.1.1.1.1.1.1.1.1.1.0.now

  abbrev table_after : List ℕ
  table_after = exit.1.1.1.1.1.1.1.1.1.0.now

  -- Demand 1: "one refusal by number for exactly the reasons listed in document 01, in the order listed there"
  pub load-answer : answer ≡ of_given load_bytes_refusal (length table_before)
  load-answer = post.0

  -- .. one: whatever the contract allows for these arguments is the same
  pub load-one-result : (other : ℕ) (there : _) → wz-assign-load.Post κs args other there → (answer ≡ other) × (table_after ≡ there.1.1.1.1.1.1.1.1.1.0.now)
  load-one-result other there q = wz-assign-load-unique κs args answer other exit there post q

  -- "A refused call changes nothing it was lent."
  pub load-unchanged : (answer ≡ 0 → ⊥) → table_after ≡ table_before
  load-unchanged = unchanged (assignment given) table_before post.0 post.1

  module _ (accepted : answer ≡ 0) where
    -- the same order over lists gives 0
    load-accepted : load_refusal given (length table_before / 8) ≡ 0
    load-accepted = load-accepts _ _ _ _ _ _ _ _ _ (length table_before) (sym post.0 ∙ accepted)

    -- "It gives the whole result", and demand 2: "Load at each bus .. equal what sections 5.1 and 5.4 of the PJM schedule say .. and each load is cut to whole units"
    pub load-whole : numbers table_after ≡ assignment given
    load-whole = holds (assignment given) table_before post.0 post.1 accepted (assignment-within given _ load-accepted) tt

    -- Demand 3: "This holds .. for metered load over buses, for contract load over an area, and for auction load over its winners; and at each bus the load handed out is
    -- the load that was there.": of the table itself, sentence by sentence in `FairLoad`
    pub load-fair : FairLoad given (numbers table_after)
    load-fair = subst (FairLoad given) (sym load-whole) (demand-3 given _ load-accepted)

-- ==== wz_settle_hour

module _ (κs : Lfts 5) (args : _) (answer : ℕ) (exit : _) (post : wz-settle-hour.Post κs args answer exit) where
  abbrev file : List ℕ
  file = args.0.now

  -- the hour that it holds
  abbrev held : Hour
  held = hour_of file

  -- the slices lent for the four lists
  abbrev congestion_before : List ℕ
  congestion_before = args.1.0.now

  abbrev loss_before : List ℕ
  loss_before = args.1.1.0.now

  abbrev credit_before : List ℕ
  credit_before = args.1.1.1.0.now

  abbrev net_before : List ℕ
  net_before = args.1.1.1.1.0.now

  abbrev congestion_after : List ℕ
  congestion_after = exit.1.0.now

  abbrev loss_after : List ℕ
  loss_after = exit.1.1.0.now

  abbrev credit_after : List ℕ
  credit_after = exit.1.1.1.0.now

  abbrev net_after : List ℕ
  net_after = exit.1.1.1.1.0.now

  -- Demand 1: "one refusal by number for exactly the reasons listed in document 01, in the order listed there"
  pub hour-answer : answer ≡ hour_refusal in_bytes file (length congestion_before ∷ length loss_before ∷ length credit_before ∷ length net_before ∷ [])
  hour-answer = post.0

  -- .. one: whatever the contract allows for these arguments is the same
  pub hour-one-result : (other : ℕ) (there : _) → wz-settle-hour.Post κs args other there
      → (answer ≡ other) × (congestion_after ≡ there.1.0.now) × (loss_after ≡ there.1.1.0.now) × (credit_after ≡ there.1.1.1.0.now) × (net_after ≡ there.1.1.1.1.0.now)
  hour-one-result other there q = wz-settle-hour-unique κs args answer other exit there post q

  -- "A refused call changes nothing it was lent."
  pub hour-unchanged : (answer ≡ 0 → ⊥) → (congestion_after ≡ congestion_before) × (loss_after ≡ loss_before) × (credit_after ≡ credit_before) × (net_after ≡ net_before)
  hour-unchanged some = (
    unchanged (hour.congestion_charges_of held) congestion_before refl post.1.0 some,
    unchanged (hour.loss_charges_of held) loss_before refl post.1.1.0 some,
    unchanged (surplus.credits held) credit_before refl post.1.1.1.0 some,
    unchanged (surplus.nets held) net_before refl post.1.1.1.1 some,
  )

  module _ (accepted : answer ≡ 0) where
    -- the four lists, in cents
    abbrev congestion : List ℤ
    congestion = numbers congestion_after

    abbrev loss : List ℤ
    loss = numbers loss_after

    abbrev credit : List ℤ
    credit = numbers credit_after

    abbrev net : List ℤ
    net = numbers net_after

    -- the hour is within its limits, and its surplus is accepted
    sound : Sound held
    sound = settled-sound in_bytes file _ (sym post.0 ∙ accepted)

    shared : surplus_refusal (surplus.surplus held) (surplus.shares held) ≡ 0
    shared = settled-accepts in_bytes file _ (sym post.0 ∙ accepted)

    -- "It gives the whole result": the bytes are read back as the lists, so each number fits 64 bits and none wrapped
    pub hour-whole : (congestion ≡ hour.congestion_charges_of held) × (loss ≡ hour.loss_charges_of held) × (credit ≡ surplus.credits held) × (net ≡ surplus.nets held)
    hour-whole = (
      holds (hour.congestion_charges_of held) congestion_before refl post.1.0 accepted (hour-laws.congestion-cents held sound) tt,
      holds (hour.loss_charges_of held) loss_before refl post.1.1.0 accepted (hour-laws.loss-cents held sound) tt,
      holds (surplus.credits held) credit_before refl post.1.1.1.0 accepted (hour-laws.credit-cents held sound shared) tt,
      holds (surplus.nets held) net_before refl post.1.1.1.1 accepted (hour-laws.net-cents held sound shared) tt,
    )

    -- Demand 2: "congestion charges and loss charges equal what sections 5.1 and 5.4 of the PJM schedule say ..
    -- Each charge is worked out exactly over whole numbers and rounded once ..": the tariff's exact `charge`, to the nearest cent, halves away from zero (crate
    -- `units`, proofs/Rounding, has that of `cents_of`)
    pub hour-congestion : (p : ℕ) → p < held.participants → congestion at p ≡ cents_of (hour.charge (congestion_prices held) (positions held) held.transactions p)
    hour-congestion p l = rw hour-whole.0 (congestion-at held p l)

    pub hour-loss : (p : ℕ) → p < held.participants → loss at p ≡ cents_of (hour.charge (loss_prices held) (positions held) held.transactions p)
    hour-loss p l = rw hour-whole.1 (loss-at held p l)

    -- document 01: "net (charges less credit)"
    pub hour-net : (p : ℕ) → p < held.participants → net at p ≡ congestion at p +ℤ loss at p -ℤ credit at p
    hour-net p l = cc (hour-whole.3, hour-whole.2, net-at held p l, hour-congestion p l, hour-loss p l)

    -- document 01: "Then loss charges and credits total the same cents." So the nets total the congestion charges
    pub hour-same-cents : sum loss ≡ sum credit
    hour-same-cents = rw (hour-whole.1, hour-whole.2) (hour-laws.same-cents held sound shared)

    pub hour-net-total : sum net ≡ sum congestion
    hour-net-total = rw (hour-whole.3, hour-whole.0) (hour-laws.net-total held sound shared)

    -- Document 02, ticket 2: "0 as before, path only": there a charge is of rows and paths alone
    pub hour-path-only : held.edition ≡ Edition.PathOnly → (p : ℕ) → p < held.participants
        → (congestion at p ≡ cents_of (hour.charge (congestion_prices held) (map position_of held.rows) held.transactions p))
        × (loss at p ≡ cents_of (hour.charge (loss_prices held) (map position_of held.rows) held.transactions p))
    hour-path-only e p l = (
      hour-congestion p l ∙ ap cents_of (sym (hour-laws.path-only (congestion_prices held) held e p)),
      hour-loss p l ∙ ap cents_of (sym (hour-laws.path-only (loss_prices held) held e p)),
    )

    -- "Show that such a transaction adds exactly nothing to the class's exact total.": with sellers that total is the rows' alone, congestion and loss alike
    pub hour-sales-nothing : held.edition ≡ Edition.WithSeller
        → (hour.class_total (congestion_prices held) held ≡ hour.rows_total (congestion_prices held) held) × (hour.class_total (loss_prices held) held ≡ hour.rows_total (loss_prices held) held)
    hour-sales-nothing e = (hour-laws.class-rows (congestion_prices held) held e sound.each-transaction, hour-laws.class-rows (loss_prices held) held e sound.each-transaction)

    -- .. and one transaction more that isn't refused, day-ahead or in real time, leaves it as it is
    pub hour-sale-nothing : held.edition ≡ Edition.WithSeller → (t : Transaction) → transaction_refusal held.participants held.locations t ≡ 0
        → (hour.class_total (congestion_prices held) (with_transaction held t) ≡ hour.class_total (congestion_prices held) held)
        × (hour.class_total (loss_prices held) (with_transaction held t) ≡ hour.class_total (loss_prices held) held)
    hour-sale-nothing e t passes =
        let tested = transaction-tested held.participants held.locations t passes in
        (hour-laws.adds-nothing (congestion_prices held) held t e tested, hour-laws.adds-nothing (loss_prices held) held t e tested)

    -- Demand 3: "This holds for every accepted hour's loss credits": they split the loss charges' sum over real-time load and exports
    pub hour-fair : Fair (sum loss) (surplus.shares held) credit
    hour-fair = fair-of (hour-laws.fair held sound shared) (ap sum hour-whole.1 ∙ hour-laws.losses-total held sound shared) hour-whole.2

-- ==== wz_write_file: document 02, ticket 1

module _ (κs : Lfts 4) (args : _) (answer : ℕ) (exit : _) (post : wz-write-file.Post κs args answer exit) where
  -- "header numbers, prices, rows and transactions in lent lists", and the hour that they are
  abbrev handed : Content
  handed = content args.0 args.1.0 args.1.1.0 args.1.1.1.0 args.1.1.1.1.0 args.1.1.1.1.1.0.now args.1.1.1.1.1.1.0.now args.1.1.1.1.1.1.1.0.now

  -- the bytes of that hour
  abbrev written : List ℕ
  written = file_of (hour_given handed)

  abbrev buffer_before : List ℕ
  buffer_before = args.1.1.1.1.1.1.1.1.0.now

  abbrev buffer_after : List ℕ
  buffer_after = exit.1.1.1.1.1.1.1.1.0.now

  -- Demand 1
  pub write-answer : answer ≡ write_refusal handed (length buffer_before)
  write-answer = post.0

  pub write-one-result : (other : ℕ) (there : _) → wz-write-file.Post κs args other there → (answer ≡ other) × (buffer_after ≡ there.1.1.1.1.1.1.1.1.0.now)
  write-one-result other there q = wz-write-file-unique κs args answer other exit there post q

  -- "A refused call changes nothing it was lent."
  pub write-unchanged : (answer ≡ 0 → ⊥) → buffer_after ≡ buffer_before
  write-unchanged some = post.1 ∙ sym (lent-before _ _ buffer_before (λ z. some (post.0 ∙ z)))

  module _ (accepted : answer ≡ 0) where
    -- "Write the file .. to a lent buffer. .. Bytes beyond the file stay."
    pub write-whole : buffer_after ≡ written ++ drop (length written) buffer_before
    write-whole = post.1 ∙ lent-result _ _ buffer_before (sym post.0 ∙ accepted)

    -- "Reading a written file gives back the hour", and the counts; what is written passes the check: `Holds`, field by field
    pub write-holds : Holds written handed
    write-holds = round.written-holds handed (length buffer_before) (sym post.0 ∙ accepted)

    pub write-room : length written ≤ length buffer_before
    write-room = (lists.write-passes handed (length buffer_before) (sym post.0 ∙ accepted)).2

    pub write-length : length written ≡ 5 + 78 * (header written).locations + 6 * (header written).rows + transaction_size (edition_in written) * (header written).transactions
    write-length = round.accepted-length written write-holds.accepted

    -- .. and so does the other call: whenever it is lent this file and lists as long as these, it answers 0, and they are these, byte for byte
    module _ (λs : Lfts 4) (again : _) (reply : ℕ) (given_back : _) (then-read : wz-read-file.Post λs again reply given_back)
        (same-file : again.0.now ≡ written)
        (prices-long : length again.1.0.now ≡ length handed.prices)
        (rows_long : length again.1.1.0.now ≡ length handed.row_list)
        (transactions-long : length again.1.1.1.0.now ≡ length handed.transaction_list) where
      pub write-then-read : reply ≡ 0
      write-then-read =
          then-read.0
          ∙ ap₂ (λ (f : List ℕ) (n : ℕ). read_refusal f n (length again.1.1.0.now) (length again.1.1.1.0.now)) same-file prices-long
          ∙ ap₂ (read_refusal written (length handed.prices)) rows_long transactions-long
          ∙ round.read_taken handed (length buffer_before) (sym post.0 ∙ accepted)

      pub write-then-read-prices : Bytes handed.prices → given_back.1.0.now ≡ handed.prices
      write-then-read-prices b =
          then-read.1.0 ∙ lent-result _ _ _ write-then-read ∙ ap (λ (f : List ℕ). prices_listed (hour_of f)) same-file
          ∙ round.prices-back handed (length buffer_before) (sym post.0 ∙ accepted) b

      pub write-then-read-rows : Bytes handed.row_list → given_back.1.1.0.now ≡ handed.row_list
      write-then-read-rows b =
          then-read.1.1.0 ∙ lent-result _ _ _ write-then-read ∙ ap (λ (f : List ℕ). rows_listed (hour_of f)) same-file
          ∙ round.rows_back handed (length buffer_before) (sym post.0 ∙ accepted) b

      pub write-then-read-transactions : Bytes handed.transaction_list → given_back.1.1.1.0.now ≡ handed.transaction_list
      write-then-read-transactions b =
          then-read.1.1.1 ∙ lent-result _ _ _ write-then-read ∙ ap (λ (f : List ℕ). transactions_listed (hour_of f)) same-file
          ∙ round.transactions-back handed (length buffer_before) (sym post.0 ∙ accepted) b

  -- "It accepts exactly the content the reader would accept up to the last transaction.": what it accepts, an accepted file holds (`write-holds`), and what an accepted
  -- file holds, it accepts, where the buffer has room
  pub write-accepts : (file : List ℕ) → Bytes file → Holds file handed → length file ≤ length buffer_before → answer ≡ 0
  write-accepts file b k h = post.0 ∙ round.holds-taken file handed b k (length buffer_before) h

  -- .. and what fits its fields, in lists as long as the counts say, it refuses with the reader's number
  pub write-same-number : (p l n m d : ℕ) → args.0 ≡ pos p → args.1.0 ≡ pos l → args.1.1.0 ≡ pos n → args.1.1.1.0 ≡ pos m → args.1.1.1.1.0 ≡ pos d → d ≤ 1
      → lists_refusal l n m (edition_of d) (length handed.prices) (length handed.row_list) (length handed.transaction_list) ≡ 0
      → FitsFields (hour_given handed) → length written ≤ length buffer_before → answer ≡ file_refusal written
  write-same-number p l n m d p-is l-is n-is m-is d-is known right f h =
      let counts : handed ≡ content (pos p) (pos l) (pos n) (pos m) (pos d) handed.prices handed.row_list handed.transaction_list = lists.content-same p-is l-is n-is m-is d-is in
      post.0 ∙ ap (λ (c : Content). write_refusal c (length buffer_before)) counts
      ∙ round.same_number p l n m d _ _ _ known right (subst (λ (c : Content). FitsFields (hour_given c)) counts f) (length buffer_before) (subst (λ (c : Content). length (file_of (hour_given c)) ≤ length buffer_before) counts h)
      ∙ sym (ap (λ (c : Content). file_refusal (file_of (hour_given c))) counts)

-- ==== wz_read_file

module _ (κs : Lfts 4) (args : _) (answer : ℕ) (exit : _) (post : wz-read-file.Post κs args answer exit) where
  abbrev source : List ℕ
  source = args.0.now

  abbrev prices_before : List ℕ
  prices_before = args.1.0.now

  abbrev rows_before : List ℕ
  rows_before = args.1.1.0.now

  abbrev transactions_before : List ℕ
  transactions_before = args.1.1.1.0.now

  -- Demand 1
  pub read_answer : answer ≡ read_refusal source (length prices_before) (length rows_before) (length transactions_before)
  read_answer = post.0

  pub read-one-result : (other : ℕ) (there : _) → wz-read-file.Post κs args other there → (answer ≡ other) × (exit.1.0.now ≡ there.1.0.now) × (exit.1.1.0.now ≡ there.1.1.0.now) × (exit.1.1.1.0.now ≡ there.1.1.1.0.now)
  read-one-result other there q = wz-read-file-unique κs args answer other exit there post q

  pub read-unchanged : (answer ≡ 0 → ⊥) → (exit.1.0.now ≡ prices_before) × (exit.1.1.0.now ≡ rows_before) × (exit.1.1.1.0.now ≡ transactions_before)
  read-unchanged some = (
    post.1.0 ∙ sym (lent-before _ _ prices_before some),
    post.1.1.0 ∙ sym (lent-before _ _ rows_before some),
    post.1.1.1 ∙ sym (lent-before _ _ transactions_before some),
  )

  -- with lists as long as its header says, a file is read where the check answers 0, and else gets the check's number
  pub read-checked : lists_refusal (header source).locations (header source).rows (header source).transactions (edition_in source) (length prices_before) (length rows_before) (length transactions_before) ≡ 0 → answer ≡ file_refusal source
  read-checked right = post.0 ∙ lists.read-checked source _ _ _ right

  module _ (accepted : answer ≡ 0) where
    pub read-passes : file_refusal source ≡ 0
    read-passes = lists.read-passes source _ _ _ (sym post.0 ∙ accepted)

    -- the three lists of the hour that it holds, in bytes
    pub read_whole : (exit.1.0.now ≡ prices_listed (hour_of source)) × (exit.1.1.0.now ≡ rows_listed (hour_of source)) × (exit.1.1.1.0.now ≡ transactions_listed (hour_of source))
    read_whole = (
      post.1.0 ∙ lent-result _ _ prices_before accepted,
      post.1.1.0 ∙ lent-result _ _ rows_before accepted,
      post.1.1.1 ∙ lent-result _ _ transactions_before accepted,
    )

    -- .. and in numbers: each fits 64 bits and none wrapped
    pub read-numbers : Bytes source
        → (numbers exit.1.0.now ≡ all_prices (hour_of source)) × (numbers exit.1.1.0.now ≡ in_turns row_numbers (hour_of source).rows) × (numbers exit.1.1.1.0.now ≡ in_turns (transaction_numbers (edition_in source)) (hour_of source).transactions)
    read-numbers b =
        let n = round.listed-numbers source b read-passes in
        (ap numbers read_whole.0 ∙ n.0, ap numbers read_whole.1 ∙ n.1, ap numbers read_whole.2 ∙ n.2)

    -- ".. writing what was read from an accepted file gives its bytes": whenever the other call is handed the counts of its header, its edition and these lists, and its buffer has
    -- room, it answers 0 and the buffer begins with the file
    module _ (λs : Lfts 4) (again : _) (reply : ℕ) (buffer : _) (then-write : wz-write-file.Post λs again reply buffer) (b : Bytes source)
        (same : handed λs again reply buffer then-write ≡ content (pos (header source).participants) (pos (header source).locations) (pos (header source).rows) (pos (header source).transactions) (pos (header source).edition) exit.1.0.now exit.1.1.0.now exit.1.1.1.0.now)
        (room : length source ≤ length again.1.1.1.1.1.1.1.1.0.now) where
      same-content : handed λs again reply buffer then-write ≡ content_of source
      same-content = same ∙ lists.lists-same read_whole.0 read_whole.1 read_whole.2

      pub read-then-write : reply ≡ 0
      read-then-write =
          then-write.0 ∙ ap (λ (c : Content). write_refusal c (length again.1.1.1.1.1.1.1.1.0.now)) same-content
          ∙ round.listed-taken source b read-passes _ room

      pub read-then-write-bytes : buffer.1.1.1.1.1.1.1.1.0.now ≡ source ++ drop (length source) again.1.1.1.1.1.1.1.1.0.now
      read-then-write-bytes =
          then-write.1 ∙ ap (λ (c : Content). write_outcome c again.1.1.1.1.1.1.1.1.0.now) same-content
          ∙ round.listed-again source b read-passes _ room

-- ==== wz_version, wz_participants, wz_counts

pub version-answer : (args : _) (answer : ℕ) (exit : _) → wz-version.Post tt args answer exit → answer ≡ version
version-answer args answer exit post = post

pub participants-answer : (κs : Lfts 1) (args : _) (answer : ℕ) (exit : _) → wz-participants.Post κs args answer exit → answer ≡ participants_of args.0.now
participants-answer κs args answer exit post = post

module _ (κs : Lfts 2) (args : _) (answer : ℕ) (exit : _) (post : wz-counts.Post κs args answer exit) where
  -- Demand 1
  pub counts-answer : answer ≡ file_counts_refusal args.0.now (length args.1.0.now)
  counts-answer = post.0

  pub counts-one-result : (other : ℕ) (there : _) → wz-counts.Post κs args other there → (answer ≡ other) × (exit.1.0.now ≡ there.1.0.now)
  counts-one-result other there q = wz-counts-unique κs args answer other exit there post q

  pub counts-unchanged : (answer ≡ 0 → ⊥) → exit.1.0.now ≡ args.1.0.now
  counts-unchanged = unchanged (count_numbers (header args.0.now)) args.1.0.now post.0 post.1

  pub counts_whole : answer ≡ 0 → exit.1.0.now ≡ encoded (count_numbers (header args.0.now))
  counts_whole accepted = post.1 ∙ lent-result _ _ args.1.0.now (sym post.0 ∙ accepted)

-- ==== wz_find_cause: why a file is refused

module _ (κs : Lfts 2) (args : _) (answer : ℕ) (exit : _) (post : wz-find-cause.Post κs args answer exit) where
  abbrev searched : List ℕ
  searched = args.0.now

  -- the cause, seven numbers of which the first is the refusal
  abbrev told : Cause
  told = hour_cause searched

  -- Demand 1: a slice that isn't as long as seven numbers is refused, and nothing else
  pub find-answer : answer ≡ cause_refusal (length args.1.0.now)
  find-answer = post.0

  pub find-one-result : (other : ℕ) (there : _) → wz-find-cause.Post κs args other there → (answer ≡ other) × (exit.1.0.now ≡ there.1.0.now)
  find-one-result other there q = wz-find-cause-unique κs args answer other exit there post q

  pub find-unchanged : (answer ≡ 0 → ⊥) → exit.1.0.now ≡ args.1.0.now
  find-unchanged = unchanged (cause_numbers told) args.1.0.now post.0 post.1

  pub find-whole : answer ≡ 0 → exit.1.0.now ≡ encoded (cause_numbers told)
  find-whole accepted = post.1 ∙ lent-result _ _ args.1.0.now (sym post.0 ∙ accepted)

  -- the number that is told is the settling's own, for every file, where the output lists are as long as they have to be; of a file whose header or length is refused that
  -- doesn't matter
  pub find-settled : (λs : Lfts 5) (again : _) (reply : ℕ) (settled : _) → wz-settle-hour.Post λs again reply settled → again.0.now ≡ searched
      → (frame_refusal searched ≡ 0 → outputs_refusal (in_bytes (hour_of searched).participants) (length again.1.0.now ∷ length again.1.1.0.now ∷ length again.1.1.1.0.now ∷ length again.1.1.1.1.0.now ∷ []) ≡ 0)
      → reply ≡ told.refusal
  find-settled λs again reply settled then-settle same long =
      let lengths = length again.1.0.now ∷ length again.1.1.0.now ∷ length again.1.1.1.0.now ∷ length again.1.1.1.1.0.now ∷ [] in
      then-settle.0 ∙ ap (λ (f : List ℕ). hour_refusal in_bytes f lengths) same ∙ causes.settle-number in_bytes searched lengths long

  -- what is found is outside the range that is told with it
  pub find-outside : (told.refusal ≡ 0) ⊎ (between told.least told.most told.found ≡ false)
  find-outside = (causes.hour-outside searched).beyond

  -- .. and is what stands in the file at the part, number and field that are told
  pub find-stands : (told.refusal ≡ 0) ⊎ (told.found ≡ file_numbers searched told.part told.number at told.field)
  find-stands = (causes.hour-stands searched).there

-- ==== wz_find_list_cause: why an hour in lists of numbers is refused

module _ (κs : Lfts 4) (args : _) (answer : ℕ) (exit : _) (post : wz-find-list-cause.Post κs args answer exit) where
  abbrev offered : Content
  offered = content args.0 args.1.0 args.1.1.0 args.1.1.1.0 args.1.1.1.1.0 args.1.1.1.1.1.0.now args.1.1.1.1.1.1.0.now args.1.1.1.1.1.1.1.0.now

  abbrev list_told : Cause
  list_told = given_cause offered

  abbrev cause_before : List ℕ
  cause_before = args.1.1.1.1.1.1.1.1.0.now

  abbrev cause_after : List ℕ
  cause_after = exit.1.1.1.1.1.1.1.1.0.now

  -- Demand 1
  pub find-list-answer : answer ≡ cause_refusal (length cause_before)
  find-list-answer = post.0

  pub find-list-one-result : (other : ℕ) (there : _) → wz-find-list-cause.Post κs args other there → (answer ≡ other) × (cause_after ≡ there.1.1.1.1.1.1.1.1.0.now)
  find-list-one-result other there q = wz-find-list-cause-unique κs args answer other exit there post q

  pub find-list-unchanged : (answer ≡ 0 → ⊥) → cause_after ≡ cause_before
  find-list-unchanged = unchanged (cause_numbers list_told) cause_before post.0 post.1

  pub find-list-whole : answer ≡ 0 → cause_after ≡ encoded (cause_numbers list_told)
  find-list-whole accepted = post.1 ∙ lent-result _ _ cause_before (sym post.0 ∙ accepted)

  -- the number that is told is the writing's own, for all content, where the buffer has room for the file
  pub find-list-written : (λs : Lfts 4) (again : _) (reply : ℕ) (buffer : _) (then-write : wz-write-file.Post λs again reply buffer) → handed λs again reply buffer then-write ≡ offered
      → length (file_of (hour_given offered)) ≤ length again.1.1.1.1.1.1.1.1.0.now → reply ≡ list_told.refusal
  find-list-written λs again reply buffer then-write same room =
      then-write.0 ∙ ap (λ (c : Content). write_refusal c (length again.1.1.1.1.1.1.1.1.0.now)) same ∙ causes.room-number offered (length again.1.1.1.1.1.1.1.1.0.now) room

  pub find-list-outside : (list_told.refusal ≡ 0) ⊎ (between list_told.least list_told.most list_told.found ≡ false)
  find-list-outside = (causes.given-outside offered).beyond

  pub find-list-stands : (list_told.refusal ≡ 0) ⊎ (list_told.found ≡ given_numbers offered list_told.part list_told.number at list_told.field)
  find-list-stands = (causes.given-stands offered).there
