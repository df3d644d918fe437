-- A trace, read line by line.
use Rattle.std.proofs.Common.{◌≡◌, ℕ, suc, ◌-◌, ◌<◌, Bool, true, false, cond, ◌&&◌, List, [], ◌∷◌, ◌++◌}
use Rattle.std.proofs.Common.{length, take, map, filter, Option, None, Some, IfSome, refl, sym, ap, ap₂, ◌∙◌}
use Rattle.std.{proofs.Common.{subst, arith, append_assoc, eqb, get_or, nat_lt, nat_eq}, specs.Prelude.Vec}
use Rattle.std.specs.{Cmp.Lexicographic.pointwise, Io.KnownBytes.IsAtEnd}
use Rattle.std.specs.Io.BufRead.{take_through, drop_through, strip_last, first_piece, DropsThrough}
use Rattle.std.proofs.lemmas.{Bool.Decides.nat_tests, List.{append-nil, map-append}}
use Rattle.std.proofs.lemmas.List.Elements.{filter-append}
use Rattle.hashlink_curve.{specs.Curve.{CurveState, Counted}, proofs.MappedKeys.Counted-map}
use Rattle.misscurve.specs.Trace.{CountsLine, CountsTrace, is_picked, lines_of, of_bytes, same_bytes}

-- ---- the first line

-- the last byte is the one at index m
strip_last-at : (bytes : List ℕ) (m : ℕ) → length bytes ≡ suc m
    → strip_last 10 bytes ≡ cond (eqb (get_or bytes m 0) 10) (take m bytes) bytes
strip_last-at bytes m e =
    let some : nat_lt 0 (length bytes) ≡ true = grind (arith, nat_tests, e) in
    let at : length bytes - 1 ≡ m = omega arith in
    ap₂ (λ t k. cond (t && eqb (get_or bytes k 0) 10) (take k bytes) bytes) some at

-- a byte before one more byte is not the last
strip_last-later : (b c : ℕ) (bytes : List ℕ)
    → strip_last 10 (b ∷ c ∷ bytes) ≡ b ∷ strip_last 10 (c ∷ bytes)
strip_last-later b c bytes =
    grind (
      arith,
      strip_last-at (b ∷ c ∷ bytes) (suc (length bytes)) refl,
      strip_last-at (c ∷ bytes) (length bytes) refl,
    )

-- a part that goes through a byte, or to the end, has at least one byte
through : (bytes : List ℕ) → 0 < length bytes → (b : ℕ) × (bs : List ℕ) × (take_through 10 bytes ≡ b ∷ bs)
through [] some = absurd (omega arith)
through (b ∷ bytes) some = by (eqb b 10)
  where
    by : (e : Bool) → (c : ℕ) × (bs : List ℕ) × (cond e (b ∷ []) (b ∷ take_through 10 bytes) ≡ c ∷ bs)
    by true = (b, [], refl)
    by false = (b, take_through 10 bytes, refl)

pub lines_first : (bytes : List ℕ) → 0 < length bytes
    → lines_of bytes ≡ first_piece 10 bytes ∷ lines_of (drop_through 10 bytes)
lines_first [] some = absurd (omega arith)
lines_first (b ∷ []) some = grind (arith, strip_last-at (b ∷ []) 0 refl)
lines_first (b ∷ c ∷ bytes) some =
    let t = through (c ∷ bytes) (omega arith) in
    grind (
      arith,
      strip_last-at (b ∷ []) 0 refl,
      lines_first (c ∷ bytes) (omega arith),
      t.2,
      strip_last-later b t.0 t.1,
    )

-- ---- the lines counted so far

module _ {A : Type 0} (parts : ℕ) (trace : List ℕ) where
  -- the lines read so far are lines of the trace, and the ones in the part were counted
  pub record LinesRead (left : Option (List ℕ)) (s : CurveState (Vec ℕ A)) : Type 0 where
    pub rest : List ℕ
    pub is : left ≡ Some rest
    pub lines : List (List ℕ)
    pub split : lines_of trace ≡ lines ++ lines_of rest
    pub used : List (Vec ℕ A)
    pub keys : map (λ k. k.items) used ≡ filter (is_picked parts) lines
    pub counted : Counted same_bytes used s

  pub LinesRead-none : (s : CurveState (Vec ℕ A)) → Counted same_bytes [] s → LinesRead (Some trace) s
  LinesRead-none s h =
      record { rest = trace; is = refl; lines = []; split = refl; used = []; keys = refl; counted = h }

  -- one more line
  pub LinesRead-line : (left right : Option (List ℕ)) (old new : CurveState (Vec ℕ A)) (read line : List ℕ)
      → IfSome left (λ bytes. read ≡ take_through 10 bytes) → DropsThrough left right 10
      → 0 < length read → line ≡ strip_last 10 read
      → CountsLine parts line old new → LinesRead left old → LinesRead right new
  LinesRead-line left right old new read line taken dropped some is counts h =
      let first = subst (λ o. IfSome o (λ bytes. read ≡ take_through 10 bytes)) h.is taken in
      let after = subst (λ o. DropsThrough o right 10) h.is dropped in
      let next = lines_first h.rest (some_by h.rest (ap length first)) in
      let more = counts h.used h.counted in
      let line_is : line ≡ first_piece 10 h.rest = is ∙ ap (strip_last 10) first in
      record {
        rest = drop_through 10 h.rest;
        is = after;
        lines = h.lines ++ line ∷ [];
        split = h.split
            ∙ ap (λ ls. h.lines ++ ls)
            (next ∙ ap (λ l. l ∷ lines_of (drop_through 10 h.rest)) (sym line_is))
            ∙ sym (append_assoc h.lines (line ∷ []) (lines_of (drop_through 10 h.rest)));
        used = h.used ++ more.0;
        keys = map-append (λ (k : Vec ℕ A). k.items) h.used more.0
            ∙ ap₂ (λ xs ys. xs ++ ys) h.keys more.1
            ∙ sym (filter-append (is_picked parts) h.lines (line ∷ []));
        counted = more.2;
      }
    where
      some_by : (bytes : List ℕ) → length read ≡ length (take_through 10 bytes) → 0 < length bytes
      some_by [] e = omega (arith, e, some)
      some_by (b ∷ bytes) e = omega arith

  -- all lines
  pub LinesRead-all : (left : Option (List ℕ)) (s : CurveState (Vec ℕ A)) → IsAtEnd left → LinesRead left s
      → CountsTrace parts trace s
  LinesRead-all left s end h =
      let none : h.rest ≡ [] = subst IsAtEnd h.is end in
      let all : lines_of trace ≡ h.lines
      = h.split ∙ ap (λ bytes. h.lines ++ lines_of bytes) none ∙ append-nil h.lines in
      subst (λ keys. Counted (pointwise nat_eq) keys (of_bytes s))
      (h.keys ∙ ap (filter (is_picked parts)) (sym all))
      (Counted-map (λ (k : Vec ℕ A). k.items) same_bytes (pointwise nat_eq) (λ a b. refl) h.used s h.counted)

-- ---- the same, if the bytes may be known

module _ {A : Type 0} (parts : ℕ) where
  -- what was read from the trace, if its bytes are known
  abbrev pub Reads : Option (List ℕ) → Option (List ℕ) → CurveState (Vec ℕ A) → Type 0
  Reads trace left s = IfSome trace (λ bytes. LinesRead parts bytes left s)

  pub Reads-none : (trace : Option (List ℕ)) (s : CurveState (Vec ℕ A)) → Counted same_bytes [] s
      → Reads trace trace s
  Reads-none None s h = tt
  Reads-none (Some bytes) s h = LinesRead-none parts bytes s h

  pub Reads-line : (trace left right : Option (List ℕ)) (old new : CurveState (Vec ℕ A)) (read line : List ℕ)
      → IfSome left (λ bytes. read ≡ take_through 10 bytes) → DropsThrough left right 10
      → 0 < length read → line ≡ strip_last 10 read
      → CountsLine parts line old new → Reads trace left old → Reads trace right new
  Reads-line None left right old new read line taken dropped some is counts h = tt
  Reads-line (Some bytes) left right old new read line taken dropped some is counts h =
      LinesRead-line parts bytes left right old new read line taken dropped some is counts h

  pub Reads-all : (trace left : Option (List ℕ)) (s : CurveState (Vec ℕ A)) → IsAtEnd left
      → Reads trace left s → IfSome trace (λ bytes. CountsTrace parts bytes s)
  Reads-all None left s end h = tt
  Reads-all (Some bytes) left s end h = LinesRead-all parts bytes left s end h

  pub Reads-end : (trace left right : Option (List ℕ)) (s : CurveState (Vec ℕ A)) → IsAtEnd left
      → DropsThrough left right 10 → Reads trace left s → IfSome trace (λ _. IsAtEnd right)
  Reads-end None left right s end dropped h = tt
  Reads-end (Some bytes) left right s end dropped h =
      let none : h.rest ≡ [] = subst IsAtEnd h.is end in
      let after : right ≡ Some (drop_through 10 h.rest) = subst (λ o. DropsThrough o right 10) h.is dropped in
      subst IsAtEnd (sym (after ∙ ap (λ bs. Some (drop_through 10 bs)) none)) refl
