-- An hour in lists of numbers: what the orders of the writer and of the reader tell. Assumes nothing.
use mathlib.Core.Path.{◌≡◌, refl, sym, ap, ◌∙◌, subst}
use mathlib.Core.List.{List}
use Prim.Native.Nat.{ℕ, ◌*◌, ◌≤◌}
use lib.Dec.{leb, eqb}
use lib.IntN.{ℤ, pos}
use lib.ListN.{length}
use borrow.Author.Tests.{leb-true, eqb-true, eq-eqb}
use Rattle.ints.specs.Number.{between}
use Rattle.ints.specs.Refusal.{unless}
use Rattle.ints.specs.Table.{tab}
use Rattle.ints.specs.Turn.{◌then◌}
use Rattle.ints.proofs.Gather.{every-tab}
use Rattle.ints.proofs.Refusals.{passed}
use Rattle.ints.proofs.Tables.{length-tab}
use Rattle.ints.proofs.Tests.{Counted, counted}
use Rattle.ints.proofs.Turns.{then-none, then-later}
use Rattle.hour.specs.Hour.{Hour}
use Rattle.hour.specs.Order.{content_refusal}
use Rattle.exercise.specs.Decoding.{count_of}
use Rattle.hour.specs.declared.Edition.{Edition}
use Rattle.exercise.specs.File.{header, edition_in}
use Rattle.exercise.specs.Lists.{Content, content, row_given, transaction_length, transaction_given, edition_given, hour_given, counts_refusal, lists_refusal, no_spare, write_refusal, read_refusal}
use Rattle.exercise.specs.Order.{frame_refusal, file_refusal, in_bytes}
use Rattle.exercise.specs.Written.{file_of}
use Rattle.exercise.proofs.Exact.{Unsold, Counts}

-- equal content from equal counts
pub content-same : {p p' l l' r r' t t' e e' : ℤ} {ps rs ts : List ℕ} → p ≡ p' → l ≡ l' → r ≡ r' → t ≡ t' → e ≡ e' → content p l r t e ps rs ts ≡ content p' l' r' t' e' ps rs ts
content-same a b c d e = cc

-- .. and from equal lists
pub lists-same : {p l r t e : ℤ} {ps ps' rs rs' ts ts' : List ℕ} → ps ≡ ps' → rs ≡ rs' → ts ≡ ts' → content p l r t e ps rs ts ≡ content p l r t e ps' rs' ts'
lists-same a b c = cc

-- ---- the orders of counts and of lengths

module _ (locations rows transactions : ℕ) (edition : Edition) (prices row_list transaction_list : ℕ) where
  pub lists-right : lists_refusal locations rows transactions edition prices row_list transaction_list ≡ 0
      → (prices ≡ 8 * (26 * locations)) × (row_list ≡ 8 * (6 * rows)) × (transaction_list ≡ 8 * (transaction_length edition * transactions))
  unfolding lists_refusal
  lists-right e =
      let p1 = passed (eqb prices (in_bytes (26 * locations))) 0 _ e in
      let p2 = passed (eqb row_list (in_bytes (6 * rows))) 0 _ p1.1 in
      let p3 = passed (eqb transaction_list (in_bytes (transaction_length edition * transactions))) 0 0 p2.1 in
      (eqb-true _ _ p1.0, eqb-true _ _ p2.0, eqb-true _ _ p3.0)

  pub lists-taken : prices ≡ 8 * (26 * locations) → row_list ≡ 8 * (6 * rows) → transaction_list ≡ 8 * (transaction_length edition * transactions) → lists_refusal locations rows transactions edition prices row_list transaction_list ≡ 0
  unfolding lists_refusal
  lists-taken p r t = rw (eq-eqb _ _ p, eq-eqb _ _ r, eq-eqb _ _ t) refl

pub counts-right : (participants locations rows transactions edition : ℤ) → counts_refusal participants locations rows transactions edition ≡ 0
    → Counted 1 64 participants × Counted 1 64 locations × Counted 0 2048 rows × Counted 0 256 transactions × Counted 0 1 edition
unfolding counts_refusal
counts-right participants locations rows transactions edition e =
    let p0 = passed (between (pos 0) (pos 1) edition) 8 _ e in
    let p1 = passed (between (pos 1) (pos 64) participants) 0 _ p0.1 in
    let p2 = passed (between (pos 1) (pos 64) locations) 0 _ p1.1 in
    let p3 = passed (between (pos 0) (pos 2048) rows) 0 _ p2.1 in
    let p4 = passed (between (pos 0) (pos 256) transactions) 0 0 p3.1 in
    (counted 1 64 participants p1.0, counted 1 64 locations p2.0, counted 0 2048 rows p3.0, counted 0 256 transactions p4.0, counted 0 1 edition p0.0)

-- a transaction that is handed over without a seller has none
given-unsold : (edition : Edition) (list : List ℕ) (n : ℕ) → Unsold edition (tab (transaction_given edition list) n)
given-unsold Edition.PathOnly list n = every-tab (λ t. t.seller ≡ 0) (transaction_given Edition.PathOnly list) n (λ i _. refl)
given-unsold Edition.WithSeller list n = tt

-- content with its counts in range and its lists as long as these say
pub record Right (c : Content) : Type 0 where
  pub participants : Counted 1 64 c.participants
  pub locations : Counted 1 64 c.locations
  pub rows : Counted 0 2048 c.rows
  pub transactions : Counted 0 256 c.transactions
  pub edition : Counted 0 1 c.edition
  pub prices-long : length c.prices ≡ 8 * (26 * count_of c.locations)
  pub rows_long : length c.row_list ≡ 8 * (6 * count_of c.rows)
  pub transactions-long : length c.transaction_list ≡ 8 * (transaction_length (edition_given c) * count_of c.transactions)

module _ (c : Content) where
  abbrev hour : Hour
  hour = hour_given c

  abbrev counts : ℕ
  counts = counts_refusal c.participants c.locations c.rows c.transactions c.edition

  abbrev lists : ℕ
  lists = lists_refusal (count_of c.locations) (count_of c.rows) (count_of c.transactions) (edition_given c) (length c.prices) (length c.row_list) (length c.transaction_list)

  pub right : counts ≡ 0 → lists ≡ 0 → Right c
  right e f =
      let k = counts-right _ _ _ _ _ e in
      let l = lists-right _ _ _ _ _ _ _ f in
      record { participants = k.0; locations = k.1; rows = k.2; transactions = k.3; edition = k.4; prices-long = l.0; rows_long = l.1; transactions-long = l.2 }

  -- its hour is within its counts
  pub hour-counts : Right c → Counts hour
  hour-counts k =
      record {
        some-participants = k.participants.some;
        few-participants = k.participants.few;
        some-locations = k.locations.some;
        few-locations = k.locations.few;
        few-rows = subst (λ (n : ℕ). n ≤ 2048) (sym (length-tab (row_given c.row_list) (count_of c.rows))) k.rows.few;
        few-transactions = subst (λ (n : ℕ). n ≤ 256) (sym (length-tab (transaction_given (edition_given c) c.transaction_list) (count_of c.transactions))) k.transactions.few;
        unsold = given-unsold (edition_given c) c.transaction_list (count_of c.transactions);
        priced = record { congestion-ahead = length-tab _ _; congestion-real = length-tab _ _; loss-ahead = length-tab _ _; loss-real = length-tab _ _ };
      }

  module _ (room : ℕ) where
    abbrev short : ℕ
    short = unless (leb (length (file_of hour)) room) 1 0

    -- content that isn't refused
    pub write-passes : write_refusal c room ≡ 0 → Right c × (content_refusal hour no_spare ≡ 0) × (length (file_of hour) ≤ room)
    unfolding write_refusal
    write-passes e =
        let p1 = then-none counts _ e in
        let p2 = then-none lists _ p1.1 in
        let p3 = then-none (content_refusal hour no_spare) short p2.1 in
        (right p1.0 p2.0, p3.0, leb-true _ _ (passed (leb (length (file_of hour)) room) 0 0 p3.1).0)

    -- .. and from its prices on, what is refused where counts and lists are right
    pub write-rest : counts ≡ 0 → lists ≡ 0 → write_refusal c room ≡ (content_refusal hour no_spare then short)
    unfolding write_refusal
    write-rest e f = then-later counts _ e ∙ then-later lists _ f

-- a file that is read passes the check
pub read-passes : (file : List ℕ) (prices row_list transaction_list : ℕ) → read_refusal file prices row_list transaction_list ≡ 0 → file_refusal file ≡ 0
unfolding read_refusal
read-passes file prices row_list transaction_list e =
    let a = then-none (frame_refusal file) _ e in
    let b = then-none (lists_refusal (header file).locations (header file).rows (header file).transactions (edition_in file) prices row_list transaction_list) _ a.1 in
    then-later (frame_refusal file) _ a.0 ∙ b.1

-- .. and with lists as long as its header says, it is refused as the check refuses it
pub read-checked : (file : List ℕ) (prices row_list transaction_list : ℕ) → lists_refusal (header file).locations (header file).rows (header file).transactions (edition_in file) prices row_list transaction_list ≡ 0
    → read_refusal file prices row_list transaction_list ≡ file_refusal file
unfolding read_refusal
read-checked file prices row_list transaction_list e = ap (λ (r : ℕ). frame_refusal file then r) (then-later (lists_refusal (header file).locations (header file).rows (header file).transactions (edition_in file) prices row_list transaction_list) _ e)
