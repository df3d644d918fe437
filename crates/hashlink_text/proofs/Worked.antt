-- Worked texts, in which no insert is refused.
use Rattle.std.proofs.Common.{ℕ, ◌+◌, ◌≤◌, ◌++◌, List, [], ◌∷◌, length, None, Some, Ok, codes, refl}
use Rattle.std.proofs.Common.{◌≡◌, ◌*◌, inl, length-append, arith, lit≤}
use Rattle.std.{specs.Fmt.digits}
use Rattle.hashlink_model.specs.MapState.{MapState, map_state, empty_map, Adds, Changes}
use Rattle.hashlink_core.specs.declared.hash_builder.DefaultHashBuilder.{DefaultHashBuilder}
use Rattle.hashlink_core.specs.Hashing.{default_builder}
use Rattle.hashlink_run.specs.declared.replies.Reply.TheVariants.{Value, Pair, Seen}
use Rattle.hashlink_text.specs.{Text.{IsTranscript, LinesRun}, Transcript.{LineShows, Shows, ShowsAll, ended}}
use Rattle.hashlink_text.proofs.ReadSo.{read_of, runs_mode, shows_line}

abbrev State : Type 0
State = MapState ℕ ℕ DefaultHashBuilder

-- the state with the given entries and numbers of free nodes, room and stored links
abbrev state : List (ℕ × ℕ) → ℕ → ℕ → ℕ → State
state es spare room writes = map_state es spare room writes default_builder

-- a pair is inserted at the back, after which there is room for 8
adds : (es : List (ℕ × ℕ)) (room w : ℕ) (pair : ℕ × ℕ) → 2 * (length es + 1) ≤ 8 → room ≤ 8
    → (length es + 1 ≤ room → 8 ≡ room)
    → Adds (state es 0 room w) (state (es ++ pair ∷ []) 0 8 (w + 4)) (es ++ pair ∷ [])
adds es room w pair few small same =
    let more = length-append es (pair ∷ []) in
    record {
      entries = refl;
      more = more;
      spare = refl;
      room = record {
        grows = small;
        same = λ le. same (omega (arith, le, more));
        bound = omega arith;
        ample = λ _. inl (omega (arith, few, more));
      };
      fits = omega (arith, few, more);
      link_writes = record { grows = omega arith; bound = omega arith };
      hasher = refl;
    }

first_added : Adds (state [] 0 0 0) (state ((1, 10) ∷ []) 0 8 4) ((1, 10) ∷ [])
first_added = adds [] 0 0 (1, 10) (lit≤ tt) (lit≤ tt) (λ le. absurd (omega (arith, le)))

second_added : (pair : ℕ × ℕ)
    → Adds (state ((1, 10) ∷ []) 0 8 4) (state ((1, 10) ∷ pair ∷ []) 0 8 8) ((1, 10) ∷ pair ∷ [])
second_added pair = adds ((1, 10) ∷ []) 8 4 pair (lit≤ tt) (lit≤ tt) (λ _. refl)

changes : (old new : List (ℕ × ℕ)) (room w stored most : ℕ) → stored ≤ most
    → Changes (state old 0 room w) (state new 0 room (w + stored)) new most
changes old new room w stored most le = record {
  entries = refl;
  spare = refl;
  room = refl;
  link_writes = record { grows = omega arith; bound = omega arith };
  hasher = refl;
}

-- starting at old, the lines have this answer, and new is left. It is a record, so that its arguments are
-- found
record Shown (old new : State) (lines : List (List ℕ)) (text : List ℕ) : Type 0 where
  all : ShowsAll LineShows old lines text new

no_line : {m : State} → Shown m m [] []
no_line = record { all = (refl, refl) }

-- a line with its answer, which leads to mid, followed by the other lines
first : {old new : State} {lines : List (List ℕ)} {text : List ℕ} (line answer : List ℕ) (mid : State)
    → Shows old (read_of line) answer mid → Shown mid new lines text
    → Shown old new (line ∷ lines) (ended answer ++ text)
first {old} {text = text} line answer mid shows more =
    record { all = (answer, mid, text, shows_line old mid line answer shows, more.all, refl) }

-- for the lines after the first one, which asks for a map
runs : {new : State} {lines : List (List ℕ)} {text : List ℕ}
    → Shown (empty_map default_builder) new lines text
    → LinesRun DefaultHashBuilder (codes "map" ∷ lines) text
runs {new} {lines} {text} shown =
    runs_mode DefaultHashBuilder (codes "map") lines text (default_builder, new, shown.all)

pub worked_answer : IsTranscript (codes "map\ninsert 1 10\ninsert 2 20\ninsert 1 11\nget 1\nremove 2\niter\n")
    (codes "-\n-\n10\n11\n20\n1:11\n")
unfolding digits
worked_answer =
    let one : State = state ((1, 10) ∷ []) 0 8 4 in
    let two : State = state ((1, 10) ∷ (2, 20) ∷ []) 0 8 8 in
    let again : State = state ((2, 20) ∷ (1, 11) ∷ []) 0 8 14 in
    let end : State = state ((1, 11) ∷ []) 1 8 17 in
    runs
    (first (codes "insert 1 10") (codes "-") one
    (Value None ∷ [], (Ok None, record { absent = refl; adds = first_added }, refl), refl)
    (first (codes "insert 2 20") (codes "-") two (
      Value None ∷ [],
      (Ok None, record { absent = refl; adds = second_added (2, 20) }, refl),
      refl,
    )
    (first (codes "insert 1 11") (codes "10") again (
      Value (Some 10) ∷ [],
      (Ok (Some 10), record { old_value = refl; puts = changes _ _ 8 8 6 6 (lit≤ tt) }, refl),
      refl,
    )
    (first (codes "get 1") (codes "11") again
    (Seen (Some (1, 11)) ∷ [], (refl, (Some (1, 11), refl, refl)), refl)
    (first (codes "remove 2") (codes "20") end (
      Value (Some 20) ∷ [],
      (
        record {
          answer = refl;
          step = record {
            entries = refl;
            fewer = refl;
            spare = refl;
            room = refl;
            link_writes = record { grows = lit≤ tt; bound = lit≤ tt };
            hasher = refl;
          };
        },
        refl,
      ),
      refl,
    )
    (first (codes "iter") (codes "1:11") end (refl, refl) no_line))))))

pub worked_entries : IsTranscript
    (codes "map\ninsert 1 10\nentry 1 or_insert 5\nentry 2 or_insert 21\nentry 1 replace_entry 12\niter\n")
    (codes "-\n10\n21\n1:10\n1:12 2:21\n")
unfolding digits
worked_entries =
    let one : State = state ((1, 10) ∷ []) 0 8 4 in
    let two : State = state ((1, 10) ∷ (2, 21) ∷ []) 0 8 8 in
    let end : State = state ((1, 12) ∷ (2, 21) ∷ []) 0 8 8 in
    runs
    (first (codes "insert 1 10") (codes "-") one
    (Value None ∷ [], (Ok None, record { absent = refl; adds = first_added }, refl), refl)
    (first (codes "entry 1 or_insert 5") (codes "10") one
    (Seen (Some (1, 10)) ∷ [], (changes _ _ 8 4 0 6 (lit≤ tt), (Some (1, 10), refl, refl)), refl)
    (first (codes "entry 2 or_insert 21") (codes "21") two (
      Seen None ∷ [],
      (Ok tt, record { absent = refl; adds = second_added (2, 21) }, refl),
      refl,
    )
    (first (codes "entry 1 replace_entry 12") (codes "1:10") end (
      Pair (Some (1, 10)) ∷ [],
      ((1, 10), record { answer = refl; step = changes _ _ 8 8 0 0 (lit≤ tt) }, refl),
      refl,
    )
    (first (codes "iter") (codes "1:12 2:21") end (refl, refl) no_line)))))
