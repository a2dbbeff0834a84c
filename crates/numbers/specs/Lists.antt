-- Slices of bytes that are lists, eight bytes a number (document 01, "The exercise file", last paragraph). Assumes nothing.
use Rattle.std.specs.Prelude.{Bool, ℕ, ◌%◌, eqb}

-- "a list's slice that is no multiple of eight gets refusal 1, in the place of a list of the wrong length": so many bytes are whole numbers
abbrev pub whole : ℕ → Bool
whole bytes = eqb (bytes % 8) 0
