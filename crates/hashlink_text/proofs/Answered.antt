-- The possible answers to a text, worked out line by line from the entries before each line.
use Rattle.std.proofs.Common.{◌≡◌, ℕ, ◌++◌, ◌⊎◌, List, [], ◌∷◌, Option, None, Some, Result, Ok, Err, codes}
use Rattle.std.{proofs.Common.{decimal, nat_eq, refl, sym, ap, ap₂, ◌∙◌, subst, inl, inr}, specs.Fmt.digits}
use Rattle.std.specs.{Map.lookup_entry, Result.IsOk, declared.alloc.AllocError.AllocError}
use Rattle.hashlink_model.specs.MapState.{MapState, map_state, empty_map, Inserts}
use Rattle.hashlink_core.specs.declared.hash_builder.DefaultHashBuilder.{DefaultHashBuilder}
use Rattle.hashlink_run.specs.{declared.replies.Reply.Reply, Reads.{SaysOf, Replies}}
use Rattle.hashlink_run.specs.declared.replies.Reply.TheVariants.{Done, Seen, Pair, Value, Length}
use Rattle.hashlink_run.specs.CallReplies.{insert_reply, shrink_reply}
use Rattle.hashlink_text.specs.Transcript.{Shows, LineShows, ShowsAll, Itself, ended, shown_by, list_shown}
use Rattle.hashlink_text.specs.{Text.{IsTranscript, LinesRun}, Transcript.{reply_shown, replies_shown}}
use Rattle.hashlink_text.specs.declared.shown.{Form.Form, Form.TheVariants.{OfValue, Whole}}
use Rattle.hashlink_text.proofs.ReadSo.{read_of, runs_read, shows_read}

abbrev Pairs : Type 0
Pairs = List (ℕ × ℕ)

-- the value that is returned for a pair that is read is the pair itself
said_itself : (pair said : Option (ℕ × ℕ)) → SaysOf Itself pair said → said ≡ pair
said_itself None None s = refl
said_itself None (Some q) s = absurd s
said_itself (Some p) None s = absurd s
said_itself (Some p) (Some q) s = ap Some s

itself_read : (pair : Option (ℕ × ℕ)) (replies : List (Reply ℕ ℕ (ℕ × ℕ))) → Replies Itself pair replies
    → replies ≡ Seen pair ∷ []
itself_read pair replies h = h.2 ∙ ap (λ o. Seen o ∷ []) (said_itself pair h.0 h.1)

shrunk : (answer : Result (Unit {0}) AllocError) → IsOk answer
    → shrink_reply {K = ℕ} {V = ℕ} {B = ℕ × ℕ} answer ≡ Done
shrunk (Ok done) h = refl
shrunk (Err e) h = cc

module _ (S : Type 0) where
  -- P holds for each possible answer to the line, if the map has these entries
  abbrev Of : Pairs → List ℕ → (MapState ℕ ℕ S → MapState ℕ ℕ S → List ℕ → Type 0) → Type 0
  Of es line P =
      (n r w : ℕ) (s : S) (new : MapState ℕ ℕ S) (text : List ℕ)
      → Shows (map_state es n r w s) (read_of line) text new → P (map_state es n r w s) new text

  -- if the map has these entries, this is the answer to the line, and the entries `left` remain
  record Answers (es : Pairs) (line answer : List ℕ) (left : Pairs) : Type 0 where
    by : Of es line (λ old new text. (text ≡ answer) × (new.entries ≡ left))

  -- this is the answer to the lines
  pub record AnswersAll (es : Pairs) (lines : List (List ℕ)) (answer : List ℕ) : Type 0 where
    pub all :
        (old new : MapState ℕ ℕ S) (text : List ℕ) → old.entries ≡ es → ShowsAll LineShows old lines text new
        → text ≡ answer

  no_line : {es : Pairs} → AnswersAll es [] []
  no_line = record { all = λ old new text is h. h.0 }

  next : {es left : Pairs} {line answer : List ℕ} {lines : List (List ℕ)} {answers : List ℕ}
      → Answers es line answer left → AnswersAll left lines answers
      → AnswersAll es (line ∷ lines) (ended answer ++ answers)
  next {line = line} one more = record {
    all = λ old new text is h.
        let shows = subst (λ es. Shows (record old { entries = es }) (read_of line) h.0 h.1) is
        (shows_read old h.1 line h.0 h.3) in
        let first = one.by old.spare old.room old.link_writes old.hasher h.1 h.0 shows in
        h.5 ∙ ap₂ (λ a m. ended a ++ m) first.0 (more.all h.1 new h.2 first.1 h.4);
  }

  -- by a single reply
  replied : {es left : Pairs} (line : List ℕ) (form : Form) (reply : Reply ℕ ℕ (ℕ × ℕ))
      → Of es line (λ old new text.
      (replies : List (Reply ℕ ℕ (ℕ × ℕ))) × (new.entries ≡ left) × (replies ≡ reply ∷ [])
      × (text ≡ replies_shown form replies))
      → Answers es line (reply_shown form reply) left
  replied line form reply shows = record {
    by = λ n r w s new text h.
        let a = shows n r w s new text h in (a.3 ∙ ap (replies_shown form) a.2, a.1);
  }

  -- without a change
  finds : {es : Pairs} (line : List ℕ) (form : Form) (reply : Reply ℕ ℕ (ℕ × ℕ))
      → Of es line (λ old new text.
      (replies : List (Reply ℕ ℕ (ℕ × ℕ))) × ((new ≡ old) × (replies ≡ reply ∷ []))
      × (text ≡ replies_shown form replies))
      → Answers es line (reply_shown form reply) es
  finds line form reply shows = replied line form reply (λ n r w s new text h.
      let a = shows n r w s new text h in (a.0, ap (λ m. m.entries) a.1.0, a.1.1, a.2))

  iter : (es : Pairs) → Answers es (codes "iter") (list_shown es) es
  iter es = record { by = λ n r w s new text h. (h.0, ap (λ m. m.entries) h.1) }

  get : (es : Pairs)
      → Answers es (codes "get 1") (shown_by (λ p. decimal p.1) (lookup_entry (nat_eq 1) es)) es
  get es = finds (codes "get 1") OfValue (Seen (lookup_entry (nat_eq 1) es))
      (λ n r w s new text h. (h.0, (h.1.0, itself_read _ h.0 h.1.1), h.2))

  pub reads : (es : Pairs) → AnswersAll es (codes "get 1" ∷ codes "iter" ∷ [])
      (ended (shown_by (λ p. decimal p.1) (lookup_entry (nat_eq 1) es)) ++ (ended (list_shown es) ++ []))
  reads es = next (get es) (next (iter es) no_line)

  pub bads : AnswersAll [] ([] ∷ codes "lens" ∷ []) (codes "bad\nbad\n")
  bads = next (bad [] refl) (next (bad (codes "lens") refl) no_line)
    where
      bad : (line : List ℕ) → read_of line ≡ None → Answers [] line (codes "bad") []
      bad line none = record {
        by = λ n r w s new text h.
            let b = subst (λ said. Shows (map_state [] n r w s) said text new) none h in
            (b.0, ap (λ m. m.entries) b.1);
      }

  -- the first insert succeeds or is refused
  inserts : (s : S) (mid new : MapState ℕ ℕ S) (r : Result (Option ℕ) (ℕ × ℕ)) (text : List ℕ)
      → Inserts nat_eq (empty_map s) mid 1 10 0 r
      → ShowsAll LineShows mid (codes "get 1" ∷ codes "iter" ∷ []) text new
      → (ended (reply_shown OfValue (insert_reply r)) ++ text ≡ codes "-\n10\n1:10\n")
      ⊎ (ended (reply_shown OfValue (insert_reply r)) ++ text ≡ codes "memory\n-\nempty\n")
  unfolding digits
  inserts s mid new (Ok None) text a h =
      inl (ap (λ m. codes "-\n" ++ m) ((reads ((1, 10) ∷ [])).all mid new text a.adds.entries h))
  inserts s mid new (Ok (Some w)) text a h = absurd (cc a.old_value)
  inserts s mid new (Err pair) text a h =
      inr (ap (λ m. codes "memory\n" ++ m) ((reads []).all mid new text a.grows.entries h))

  pub ends : AnswersAll []
      (codes "len" ∷ codes "front" ∷ codes "pop_back" ∷ codes "to_front 1" ∷ codes "clear" ∷ codes "shrink"
      ∷ codes "iter" ∷ [])
      (codes "0\n-\n-\n-\nok\nok\nempty\n")
  unfolding digits
  ends =
      next (finds (codes "len") OfValue (Length 0) (λ n r w s new text h. h))
      (next (finds (codes "front") Whole (Seen None)
      (λ n r w s new text h. (h.0, (h.1.0, itself_read None h.0 h.1.1), h.2)))
      (next (finds (codes "pop_back") OfValue (Pair None)
      (λ n r w s new text h. (h.0, (h.1.0.step, h.1.1), h.2)))
      (next (finds (codes "to_front 1") OfValue (Seen None)
      (λ n r w s new text h. (h.0, (h.1.0.step, itself_read None h.0 h.1.1), h.2)))
      (next (replied (codes "clear") OfValue Done (λ n r w s new text h. (h.0, h.1.0.entries, h.1.1, h.2)))
      (next (replied (codes "shrink") OfValue Done (λ n r w s new text h.
      let done = shrunk h.1.0 (h.1.1.empty refl).0 in
      (h.0, h.1.1.entries, h.1.2 ∙ ap (λ reply. reply ∷ []) done, h.2)))
      (next (iter []) no_line))))))

  pub entries : AnswersAll []
      (codes "entry 1 get" ∷ codes "entry 1 replace_entry 5" ∷ codes "entry 1 to_back" ∷
      codes "entry 1 remove" ∷ codes "iter" ∷ [])
      (codes "-\n-\n-\n-\nempty\n")
  entries =
      next (finds (codes "entry 1 get") OfValue (Seen None) (λ n r w s new text h. h))
      (next (finds (codes "entry 1 replace_entry 5") OfValue (Pair None) (λ n r w s new text h. h))
      (next (finds (codes "entry 1 to_back") OfValue (Seen None) (λ n r w s new text h. h))
      (next (finds (codes "entry 1 remove") OfValue (Value None) (λ n r w s new text h. h))
      (next (iter []) no_line))))

-- a text to a map
pub only_answer : {lines : List (List ℕ)} {answer : List ℕ} → AnswersAll DefaultHashBuilder [] lines answer
    → (text : List ℕ) → LinesRun DefaultHashBuilder (codes "map" ∷ lines) text → text ≡ answer
only_answer {lines} one text t =
    let r = runs_read DefaultHashBuilder (codes "map") lines text t in
    one.all (empty_map r.0) r.1 text refl r.2

pub insert_answers : (text : List ℕ) → IsTranscript (codes "map\ninsert 1 10\nget 1\niter\n") text
    → (text ≡ codes "-\n10\n1:10\n") ⊎ (text ≡ codes "memory\n-\nempty\n")
insert_answers text t =
    let lines : List (List ℕ) = codes "insert 1 10" ∷ codes "get 1" ∷ codes "iter" ∷ [] in
    let run = runs_read DefaultHashBuilder (codes "map") lines text t in
    let r = run.2 in
    let done = shows_read (empty_map run.0) r.1 (codes "insert 1 10") r.0 r.3 in
    let is = r.5 ∙ ap (λ a. ended a ++ r.2) (done.2 ∙ ap (replies_shown OfValue) done.1.2) in
    subst (λ t. (t ≡ codes "-\n10\n1:10\n") ⊎ (t ≡ codes "memory\n-\nempty\n")) (sym is)
    (inserts DefaultHashBuilder run.0 r.1 run.1 done.1.0 r.2 done.1.1 r.4)
