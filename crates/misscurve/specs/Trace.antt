-- What is counted in a trace.
use Rattle.std.specs.Prelude.{◌≡◌, ℕ, ◌*◌, ◌/◌, ◌%◌, ◌^◌, Bool, ◌||◌, List, [], ◌∷◌, ◌++◌, map, fold, filter}
use Rattle.std.specs.Prelude.{bit_xor, nat_eq, nat_le, ◌==◌, if◌then◌else◌, Vec}
use Rattle.std.specs.Cmp.Lexicographic.{pointwise}
use Rattle.hashlink_curve.specs.Curve.{CurveState, Counted}

-- a byte that ends no line, put in front of the first of the lines after it; if there are none, it is a line
abbrev pub begun_with : ℕ → List (List ℕ) → List (List ℕ)
begun_with byte [] = (byte ∷ []) ∷ []
begun_with byte (line ∷ lines) = (byte ∷ line) ∷ lines

-- the lines of a trace: a byte 10 ends a line, and the end of the trace ends the last one if it isn't empty
abbrev pub lines_of : List ℕ → List (List ℕ)
lines_of [] = []
lines_of (byte ∷ bytes) = if byte == 10 then [] ∷ lines_of bytes else begun_with byte (lines_of bytes)

-- multiplies the bytes in; afterwards the high bits are mixed into the low ones
abbrev pub multiplied : ℕ → ℕ → ℕ
multiplied sum byte = (bit_xor sum byte * 0x0000_0100_0000_01b3) % 2 ^ 64

abbrev pub high_bits_down : ℕ → ℕ
high_bits_down sum = bit_xor sum (sum / 2 ^ 33)

abbrev pub mixed : List ℕ → ℕ
mixed key =
    high_bits_down
    ((high_bits_down (fold multiplied 0xcbf2_9ce4_8422_2325 key) * 0xff51_afd7_ed55_8ccd) % 2 ^ 64)

-- whether a key is in the part that is read, which is one of `parts`
abbrev pub is_picked : ℕ → List ℕ → Bool
is_picked parts key = nat_le parts 1 || (mixed key % parts == 0)

module _ {A : Type 0} where
  -- keys are equal if their bytes are
  abbrev pub same_bytes : Vec ℕ A → Vec ℕ A → Bool
  same_bytes a b = pointwise nat_eq a.items b.items

  -- the curve of lists of bytes
  abbrev pub of_bytes : CurveState (Vec ℕ A) → CurveState (List ℕ)
  of_bytes s = record { keys = map (λ k. k.items) s.keys; reuses = s.reuses; reserved = s.reserved }

  -- the curve has counted the lines of the trace that are in the part that is read
  abbrev pub CountsTrace : ℕ → List ℕ → CurveState (Vec ℕ A) → Type 0
  CountsTrace parts trace s =
      Counted (pointwise nat_eq) (filter (is_picked parts) (lines_of trace)) (of_bytes s)

  -- it has also counted this line, if the line is in the part
  abbrev pub CountsLine : ℕ → List ℕ → CurveState (Vec ℕ A) → CurveState (Vec ℕ A) → Type 0
  CountsLine parts line old new =
      (used : List (Vec ℕ A)) → Counted same_bytes used old
      → (keys : List (Vec ℕ A)) × (map (λ k. k.items) keys ≡ filter (is_picked parts) (line ∷ []))
      × Counted same_bytes (used ++ keys) new
