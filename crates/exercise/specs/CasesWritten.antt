-- The file of document 01, "Cases", and another with what that one lacks, written by the definitions. Assumes nothing.
use Rattle.std.specs.Prelude.{◌≡◌, refl, List, [], ◌∷◌, ◌++◌, ℕ, ◌+◌, ◌*◌, ◌%◌, ℤ, pos, negsuc}
use Rattle.ints.specs.Table.{tab}
use Rattle.hour.specs.Hour.{Hour}
use Rattle.hour.specs.declared.Edition.{Edition}
use Rattle.exercise.specs.CasesFile.{times, statement}
use Rattle.exercise.specs.File.{header, places_of, hour_of}
use Rattle.exercise.specs.Packed.{bytes_at}
use Rattle.exercise.specs.Written.{bytes_high, run, file_of}

-- so many times the same price
abbrev same : ℕ → ℤ → List ℤ
same n price = tab (λ _. price) n

-- document 01's hour in numbers, which has no transaction, in an edition
abbrev pub paper : Edition → Hour
paper edition =
    record {
      participants = 2;
      locations = 2;
      congestion_ahead = same 2 (pos 0);
      congestion_real = same 24 (pos 0);
      loss_ahead = pos 120 ∷ pos 600 ∷ [];
      loss_real = tab (λ i. pos (120 + 480 * (i % 2))) 24;
      rows = record { market = 1; kind = 0; interval = 0; participant = 0; location = 1; kw = record { 0 = 200000 } }
          ∷ record { market = 1; kind = 1; interval = 0; participant = 1; location = 0; kw = record { 0 = 110000 } }
          ∷ record { market = 1; kind = 2; interval = 0; participant = 1; location = 1; kw = record { 0 = 100000 } }
          ∷ [];
      edition = edition;
      transactions = [];
    }

written : file_of (paper Edition.PathOnly) ≡ statement
unfolding bytes_high run tab
written = refl

again : file_of (hour_of statement) ≡ statement
unfolding header bytes_at places_of bytes_high run tab
again = refl

-- 3 participants, prices of both signs at their limits, both markets, the last interval, the most kW, and a transaction
abbrev pub mixed : Hour
mixed =
    record {
      participants = 3;
      locations = 2;
      congestion_ahead = negsuc 0 ∷ pos 630 ∷ [];
      congestion_real = same 22 (pos 0) ++ (negsuc 599 ∷ negsuc 599 ∷ []);
      loss_ahead = pos 5000000 ∷ negsuc 4999999 ∷ [];
      loss_real = same 24 (pos 1);
      rows = record { market = 1; kind = 3; interval = 11; participant = 2; location = 1; kw = record { 0 = 20000000 } }
          ∷ record { market = 0; kind = 5; interval = 0; participant = 0; location = 0; kw = record { 0 = 1 } }
          ∷ [];
      edition = Edition.PathOnly;
      transactions = record { market = 1; interval = 4; participant = 1; seller = 0; source = 0; sink = 1; kw = record { 0 = 33 } } ∷ [];
    }

abbrev pub mixed_file : List ℕ
mixed_file =
    (0x08 ∷ 0x10 ∷ 0x02 ∷ 0x00 ∷ 0x40 ∷ [])
    ++ (0xFF ∷ 0xFF ∷ 0xFF ∷ 0x00 ∷ 0x02 ∷ 0x76 ∷ [])
    ++ times 66 (0x00 ∷ [])
    ++ (0xFF ∷ 0xFD ∷ 0xA8 ∷ 0xFF ∷ 0xFD ∷ 0xA8 ∷ [])
    ++ (0x4C ∷ 0x4B ∷ 0x40 ∷ 0xB3 ∷ 0xB4 ∷ 0xC0 ∷ [])
    ++ times 24 (0x00 ∷ 0x00 ∷ 0x01 ∷ [])
    ++ (0xBB ∷ 0x08 ∷ 0x19 ∷ 0x89 ∷ 0x68 ∷ 0x00 ∷ 0x50 ∷ 0x00 ∷ 0x00 ∷ 0x00 ∷ 0x00 ∷ 0x08 ∷ [])
    ++ (0xA0 ∷ 0x20 ∷ 0x02 ∷ 0x00 ∷ 0x00 ∷ 0x21 ∷ [])

mixed-written : file_of mixed ≡ mixed_file
unfolding bytes_high run tab
mixed-written = refl

mixed-read : hour_of mixed_file ≡ mixed
unfolding header bytes_at places_of tab
mixed-read = refl
