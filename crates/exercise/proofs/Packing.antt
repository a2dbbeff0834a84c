-- Laws of packing: what was packed is read back, and what was read packs to the same bytes. Assumes nothing.
use mathlib.Core.Path.{◌≡◌, refl, sym, ap, ap₂, ◌∙◌}
use mathlib.Core.List.{List, [], ◌∷◌, ◌++◌, append_assoc}
use Prim.Native.Nat.{ℕ, zero, suc, ◌+◌, ◌*◌, ◌-◌, ◌/◌, ◌%◌, ◌^◌, ◌≤◌, ◌<◌}
use native.Mathlib.Nat.{div-lt_iff_lt-mul, mul-le-mul_right, mod-lt, mod-eq_of_lt, pow-suc}
use native.Mathlib.Omega.{arith}
use lib.Arith.{mod-mul}
use lib.Pow.{pow_pos, pow-add}
use lib.ListN.{length, get_or, take, drop, length-append, length-drop}
use lib.Seq.{take-suc, get_or_at, get_or-drop, get_or-append-add}
use Rattle.numbers.specs.Bytes.{Bytes}
use Rattle.hour.specs.declared.Row.{Row}
use Rattle.hour.specs.declared.Transaction.{Transaction}
use Rattle.exercise.specs.Inside.{header_bits}
use Rattle.hour.specs.declared.Edition.{Edition}
use Rattle.exercise.specs.File.{header_of, row_of, row_spare, transaction_of, transaction_spare}
use Rattle.exercise.specs.Layout.{header_widths, header_size, row_widths, row_size, transaction_widths, transaction_size}
use Rattle.exercise.specs.Packed.{bytes_at, bits_in}
use Rattle.exercise.specs.Written.{Field, packed_after, packed, bytes_high, in_widths, count_fields, row_fields, row_bits, transaction_fields, transaction_bits, Fit}
use Rattle.exercise.specs.declared.Header.{Header}

-- ---- bytes of a number

pub length_high : (size v : ℕ) → length (bytes_high size v) ≡ size
unfolding bytes_high
length_high zero v = refl
length_high (suc size) v = omega (arith, length-append (bytes_high size (v / 256)) (v % 256 ∷ []), length_high size (v / 256))

-- the bytes of v, wherever they stand, are read as v
pub high-at : (before after : List ℕ) (size v k : ℕ) → length before ≡ k → v < 256 ^ size → bytes_at (before ++ (bytes_high size v ++ after)) k size ≡ v
unfolding bytes_at bytes_high
high-at before after zero v k e h = omega arith
high-at before after (suc size) v k e h =
    let high = bytes_high size (v / 256) in
    let same : before ++ ((high ++ (v % 256 ∷ [])) ++ after) ≡ before ++ (high ++ (v % 256 ∷ after)) = ap (λ (t : List ℕ). before ++ t) (append_assoc high (v % 256 ∷ []) after) in
    let grouped : before ++ (high ++ (v % 256 ∷ after)) ≡ (before ++ high) ++ (v % 256 ∷ after) = sym (append_assoc before high (v % 256 ∷ after)) in
    let rest : bytes_at (before ++ (high ++ (v % 256 ∷ after))) k size ≡ v / 256 = high-at before (v % 256 ∷ after) size (v / 256) k e ((div-lt_iff_lt-mul (omega arith)).1 (omega (arith, pow-suc 256 size))) in
    let last : get_or (before ++ (high ++ (v % 256 ∷ after))) (k + size) 0 ≡ v % 256 = ap (λ (s : List ℕ). get_or s (k + size) 0) grouped ∙ get_or_at (before ++ high) (v % 256) after 0 (k + size) (length-append before high ∙ ap₂ ◌+◌ e (length_high size (v / 256))) in
    ap (λ (s : List ℕ). 256 * bytes_at s k size + get_or s (k + size) 0) same ∙ omega (arith, rest, last)

-- bytes after others are read as by themselves
pub at_after : (before s : List ℕ) (k size : ℕ) → bytes_at (before ++ s) (length before + k) size ≡ bytes_at s k size
unfolding bytes_at
at_after before s k zero = refl
at_after before s k (suc size) =
    let here : length before + k + size ≡ length before + (k + size) = omega arith in
    omega (arith, at_after before s k size, ap (λ (i : ℕ). get_or (before ++ s) i 0) here ∙ get_or-append-add before s (k + size) 0)

-- bytes that are read are those of the number
module _ (s : List ℕ) (b : Bytes s) (k : ℕ) where
  pub at-fits : (size : ℕ) → k + size ≤ length s → bytes_at s k size < 256 ^ size
  unfolding bytes_at
  at-fits zero h = omega arith
  at-fits (suc size) h = omega (arith, at-fits size (omega arith), b.each (k + size) (omega arith), pow-suc 256 size)

  pub high-back : (size : ℕ) → k + size ≤ length s → bytes_high size (bytes_at s k size) ≡ take size (drop k s)
  unfolding bytes_at bytes_high
  high-back zero h = refl
  high-back (suc size) h =
      let a = bytes_at s k size in
      let d = get_or s (k + size) 0 in
      let low : d < 256 = b.each (k + size) (omega arith) in
      let others : (256 * a + d) / 256 ≡ a = omega arith in
      let digit : (256 * a + d) % 256 ≡ d = omega arith in
      ap₂ (λ (u w : ℕ). bytes_high size u ++ (w ∷ [])) others digit
      ∙ ap₂ (λ (t : List ℕ) (w : ℕ). t ++ (w ∷ [])) (high-back size (omega arith)) (sym (get_or-drop k s size 0))
      ∙ sym (take-suc (drop k s) size 0 (omega (arith, length-drop k s)))

-- ---- fields

-- how many bits fields have
abbrev wide : List Field → ℕ
wide [] = 0
wide (field ∷ fields) = field.1 + wide fields

-- what was packed before stands above the fields that come after it
packed-after : (before : ℕ) (fields : List Field) → packed_after before fields ≡ before * 2 ^ wide fields + packed fields
packed-after before [] = omega arith
packed-after before (field ∷ fields) =
    let a = packed-after (before * 2 ^ field.1 + field.0) fields in
    let b = packed-after (0 * 2 ^ field.1 + field.0) fields in
    omega (arith, a, b, ap (λ (q : ℕ). before * q) (pow-add 2 field.1 (wide fields)))

-- fields that fit are below as many bits as they have
packed-below : (fields : List Field) → Fit fields → packed fields < 2 ^ wide fields
packed-below [] f = omega arith
packed-below (field ∷ fields) f =
    let more : suc field.0 * 2 ^ wide fields ≤ 2 ^ field.1 * 2 ^ wide fields = mul-le-mul_right (2 ^ wide fields) (omega (arith, f.0)) in
    omega (arith, packed-after (0 * 2 ^ field.1 + field.0) fields, packed-below fields f.1, more, pow-add 2 field.1 (wide fields))

-- the fields of a number by their widths
abbrev fields_of : List ℕ → ℕ → List Field
fields_of [] v = []
fields_of (width ∷ widths) v = (v / 2 ^ bits_in widths % 2 ^ width, width) ∷ fields_of widths v

wide-fields : (widths : List ℕ) (v : ℕ) → wide (fields_of widths v) ≡ bits_in widths
wide-fields [] v = refl
wide-fields (width ∷ widths) v = ap (λ (n : ℕ). width + n) (wide-fields widths v)

fields_fit : (widths : List ℕ) (v : ℕ) → Fit (fields_of widths v)
fields_fit [] v = tt
fields_fit (width ∷ widths) v = (mod-lt _ (pow_pos width), fields_fit widths v)

-- packed again, they are the number's lowest bits
packed-fields : (widths : List ℕ) (v : ℕ) → packed (fields_of widths v) ≡ v % 2 ^ bits_in widths
packed-fields [] v = omega arith
packed-fields (width ∷ widths) v =
    let top = v / 2 ^ bits_in widths % 2 ^ width in
    packed-after (0 * 2 ^ width + top) (fields_of widths v)
    ∙ ap₂ (λ (n q : ℕ). (0 * 2 ^ width + top) * 2 ^ n + q) (wide-fields widths v) (packed-fields widths v)
    ∙ omega (arith, mod-mul v {m = 2 ^ width} {c = 2 ^ bits_in widths} (pow_pos width) (pow_pos (bits_in widths)), ap (λ (q : ℕ). v % q) (pow-add 2 width (bits_in widths)))

-- .. which of a number that has no more bits is all of it
pub packed-again : (widths : List ℕ) (v : ℕ) → v < 2 ^ bits_in widths → packed (fields_of widths v) ≡ v
packed-again widths v h = packed-fields widths v ∙ mod-eq_of_lt h

-- ---- a row

pub row_same : {m m' k k' i i' p p' l l' w w' : ℕ} → m ≡ m' → k ≡ k' → i ≡ i' → p ≡ p' → l ≡ l' → w ≡ w'
    → ◌≡◌ {A = Row} (record { market = m; kind = k; interval = i; participant = p; location = l; kw = record { 0 = w } }) (record { market = m'; kind = k'; interval = i'; participant = p'; location = l'; kw = record { 0 = w' } })
row_same a b c d e f = cc

pub row-packed : (row : Row) → Fit (row_fields row) → row_bits row < 256 ^ row_size
row-packed row f = packed-below (row_fields row) f

pub row_back : (row : Row) → Fit (row_fields row) → row_of (row_bits row) ≡ row
row_back row f = row_same (omega arith) (omega arith) (omega arith) (omega arith) (omega arith) (omega arith)

pub row-no-spare : (row : Row) → row_spare (row_bits row) ≡ 0
row-no-spare row = omega arith

-- a row with what stands in its spare bits
abbrev row_with : Row → ℕ → List Field
row_with row spare = in_widths row_widths (row.market ∷ row.kind ∷ row.interval ∷ row.participant ∷ row.location ∷ row.kw.0 ∷ spare ∷ [])

pub row_fits : (v : ℕ) → Fit (row_fields (row_of v))
row_fits v = let f = fields_fit row_widths v in (f.0, (f.1.0, (f.1.1.0, (f.1.1.1.0, (f.1.1.1.1.0, (f.1.1.1.1.1.0, (omega arith, tt)))))))

-- a number of 48 bits without a spare bit is its row
pub row-of : (v : ℕ) → v < 256 ^ row_size → row_spare v ≡ 0 → row_bits (row_of v) ≡ v
row-of v h e = ap (λ (spare : ℕ). packed (row_with (row_of v) spare)) (sym e) ∙ packed-again row_widths v h

-- ---- a transaction

pub transaction-same : {m m' i i' p p' s s' o o' l l' w w' : ℕ} → m ≡ m' → i ≡ i' → p ≡ p' → s ≡ s' → o ≡ o' → l ≡ l' → w ≡ w'
    → ◌≡◌ {A = Transaction} (record { market = m; interval = i; participant = p; seller = s; source = o; sink = l; kw = record { 0 = w } }) (record { market = m'; interval = i'; participant = p'; seller = s'; source = o'; sink = l'; kw = record { 0 = w' } })
transaction-same a b c d e f g = cc

pub transaction-packed : (edition : Edition) (t : Transaction) → Fit (transaction_fields edition t) → transaction_bits edition t < 256 ^ transaction_size edition
transaction-packed Edition.PathOnly t f = packed-below (transaction_fields Edition.PathOnly t) f
transaction-packed Edition.WithSeller t f = packed-below (transaction_fields Edition.WithSeller t) f

pub transaction-back : (edition : Edition) (t : Transaction) → Fit (transaction_fields edition t) → transaction_of edition (transaction_bits edition t) ≡ t
transaction-back Edition.PathOnly t f = transaction-same (omega arith) (omega arith) (omega arith) (omega arith) (omega arith) (omega arith) (omega arith)
transaction-back Edition.WithSeller t f = transaction-same (omega arith) (omega arith) (omega arith) (omega arith) (omega arith) (omega arith) (omega arith)

pub transaction-no-spare : (edition : Edition) (t : Transaction) → transaction_spare edition (transaction_bits edition t) ≡ 0
transaction-no-spare Edition.PathOnly t = omega arith
transaction-no-spare Edition.WithSeller t = omega arith

-- a transaction with what stands in its spare bits
abbrev transaction_with : Edition → Transaction → ℕ → List Field
transaction_with edition t spare = in_widths (transaction_widths edition) (t.market ∷ t.interval ∷ t.participant ∷ t.seller ∷ t.source ∷ t.sink ∷ t.kw.0 ∷ spare ∷ [])

-- the fields of a number, but for the last of eight
but_last : {a b c d e f g h : Type 0} → (a × (b × (c × (d × (e × (f × (g × (h × Unit {0})))))))) → {k : Type 0} → k → (a × (b × (c × (d × (e × (f × (g × (k × Unit {0}))))))))
but_last x k = (x.0, (x.1.0, (x.1.1.0, (x.1.1.1.0, (x.1.1.1.1.0, (x.1.1.1.1.1.0, (x.1.1.1.1.1.1.0, (k, tt))))))))

pub transaction-fits : (edition : Edition) (v : ℕ) → Fit (transaction_fields edition (transaction_of edition v))
transaction-fits Edition.PathOnly v = but_last (fields_fit (transaction_widths Edition.PathOnly) v) (omega arith)
transaction-fits Edition.WithSeller v = but_last (fields_fit (transaction_widths Edition.WithSeller) v) (omega arith)

-- a number of so many bytes without a spare bit is its transaction
pub transaction-of : (edition : Edition) (v : ℕ) → v < 256 ^ transaction_size edition → transaction_spare edition v ≡ 0 → transaction_bits edition (transaction_of edition v) ≡ v
transaction-of edition v h e = ap (λ (spare : ℕ). packed (transaction_with edition (transaction_of edition v) spare)) (sym e) ∙ by edition h
  where
    by : (edition : Edition) → v < 256 ^ transaction_size edition → packed (transaction_with edition (transaction_of edition v) (transaction_spare edition v)) ≡ v
    by Edition.PathOnly h = packed-again (transaction_widths Edition.PathOnly) v h
    by Edition.WithSeller h = packed-again (transaction_widths Edition.WithSeller) v h

-- ---- a header of so many participants, locations, rows and transactions

abbrev pub counted : ℕ → ℕ → ℕ → ℕ → ℕ → Header
counted p l r t e = record { participants = p; locations = l; rows = r; transactions = t; edition = e }

header-same : {p p' l l' r r' t t' e e' : ℕ} → p ≡ p' → l ≡ l' → r ≡ r' → t ≡ t' → e ≡ e' → counted p l r t e ≡ counted p' l' r' t' e'
header-same a b c d e = cc

module _ (p l r t e : ℕ) (f : Fit (count_fields p l r t e)) where
  pub header-packed : header_bits p l r t e < 256 ^ header_size
  header-packed = omega arith

  pub header-back : 1 ≤ p → 1 ≤ l → header_of (header_bits p l r t e) ≡ counted p l r t e
  header-back some-p some-l = header-same (omega arith) (omega arith) (omega arith) (omega arith) (omega arith)

-- a number of 40 bits is its header
pub header_of_lem : (v : ℕ) → v < 256 ^ header_size → header_bits (header_of v).participants (header_of v).locations (header_of v).rows (header_of v).transactions (header_of v).edition ≡ v
header_of_lem v h =
    let less : (n : ℕ) → n + 1 - 1 ≡ n = λ n. omega arith in
    ap₂ (λ (p l : ℕ). packed (in_widths header_widths (p ∷ l ∷ (header_of v).rows ∷ (header_of v).transactions ∷ (header_of v).edition ∷ []))) (less _) (less _) ∙ packed-again header_widths v h

pub header-fits : (v : ℕ) → Fit (count_fields (header_of v).participants (header_of v).locations (header_of v).rows (header_of v).transactions (header_of v).edition)
header-fits v = (omega arith, (omega arith, (omega arith, (omega arith, (omega arith, tt)))))
