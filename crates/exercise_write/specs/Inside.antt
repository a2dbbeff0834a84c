-- Rows and transactions alike, and content that is ready to be written. Assumes nothing.
use Rattle.std.specs.Prelude.{◌≡◌, List, ℕ, ◌+◌, ◌*◌, ◌≤◌, ◌<◌, pos, length}
use Rattle.ints.specs.Twos.{InBits}
use Rattle.numbers.specs.Bytes.{number_at}
use Rattle.exercise.specs.Layout.{transaction_size, edition_of}
use Rattle.exercise.specs.Lists.{content, hour_given, row_given, transaction_length, transaction_given}
use Rattle.exercise.specs.declared.Header.{Header}
use Rattle.exercise.specs.declared.Item.{Item}
use Rattle.exercise.specs.Written.{Field, row_fields, transaction_fields, Fit, FitsFields}

-- the fields of item i of a list
abbrev pub fields_given : Item → List ℕ → ℕ → List Field
fields_given Item.Row list i = row_fields (row_given list i)
fields_given (Item.Transaction edition) list i = transaction_fields edition (transaction_given edition list i)

-- those of the first n fit
pub record FieldsFit (item : Item) (list : List ℕ) (n : ℕ) : Type 0 where
  pub each : (i : ℕ) → i < n → Fit (fields_given item list i)

pub record PricesFit (list : List ℕ) (n : ℕ) : Type 0 where
  pub each : (i : ℕ) → i < n → InBits 24 (number_at list i)

pub record HeaderFits (h : Header) : Type 0 where
  pub some-participants : 1 ≤ h.participants
  pub few-participants : h.participants ≤ 64
  pub some-locations : 1 ≤ h.locations
  pub few-locations : h.locations ≤ 64
  pub few-rows : h.rows ≤ 2048
  pub few-transactions : h.transactions ≤ 256
  pub known-edition : h.edition ≤ 1

-- content that fits its fields, in lists that are long enough, and room for its file
pub record Ready (h : Header) (prices row_list transaction_list : List ℕ) (room : ℕ) : Type 0 where
  pub header : HeaderFits h
  pub prices-long : length prices ≡ 8 * (26 * h.locations)
  pub rows_long : length row_list ≡ 8 * (6 * h.rows)
  pub transactions-long : length transaction_list ≡ 8 * (transaction_length (edition_of h.edition) * h.transactions)
  pub fits : FitsFields (hour_given (content (pos h.participants) (pos h.locations) (pos h.rows) (pos h.transactions) (pos h.edition) prices row_list transaction_list))
  pub enough : 5 + 3 * (26 * h.locations) + 6 * h.rows + transaction_size (edition_of h.edition) * h.transactions ≤ room
