-- Bytes written into a text that is lent. Assumes nothing.
use Rattle.std.specs.Prelude.{◌≡◌, List, ℕ, ◌+◌, length}
use Rattle.std.proofs.lemmas.List.Edits.{sets}

-- the bytes stand in the text from a place on, the rest is as before, and they end at the place given
pub record Written (before : List ℕ) (at : ℕ) (bytes after : List ℕ) (end : ℕ) : Type 0 where
  pub text : after ≡ sets before at bytes
  pub ends : end ≡ at + length bytes
