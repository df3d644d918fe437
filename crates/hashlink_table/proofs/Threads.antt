-- All chains together: a cell is taken out of its chain, and put into another one.
use Rattle.hashlink_table.proofs.Names.{◌≡◌, ◌≢◌, ℕ, ◌<◌, ◌≤◌, ◌+◌, inl, inr, List, length, get_or, set, sym}
use Rattle.hashlink_table.proofs.Names.{ap, ◌∙◌, refl, subst, arith, cases_eq, cases_lt, cond, eqb, eq-eqb}
use Rattle.hashlink_table.proofs.Names.{ne_eqb, get_or-set_same, get_or-set_other, length-set, END, IsChain}
use Rattle.hashlink_table.proofs.Names.{IsLink, IsThreaded, Ranks}

-- the new function agrees with the old one except at i
abbrev pub SameBut : ℕ → (ℕ → ℕ) → (ℕ → ℕ) → Type 0
SameBut i old new = (j : ℕ) → j ≢ i → new j ≡ old j

-- different cells have different ranks
pub lower : (r : Ranks) (i j : ℕ) → i < END → j < END → i ≢ j → r.of i ≤ r.of j → r.of i < r.of j
lower r i j at_i at_j other high =
    let apart : r.of i ≢ r.of j = λ e. other (r.apart i j (omega (arith, at_i)) (omega (arith, at_j)) e) in
    omega (arith, apart, high)

-- no cell of the chain is after a link to the end
pub passed : {next chain : ℕ → ℕ} {start b : ℕ} (c : IsChain next chain start b) {from to : ℕ}
    → IsLink c.rank.of chain b from to → to ≡ END → (j : ℕ) → chain j ≡ b → from ≤ c.rank.of j
passed c {from} l e j on = elim (cases_lt (c.rank.of j) from) as (λ _. from ≤ c.rank.of j) [
  | inl less ↦
      let small = c.small j on in
      let last : j ≡ END = c.rank.apart j END (omega (arith, small)) (omega arith)
      (omega (arith, l.whole j on less, ap c.rank.of e, c.rank.ends)) in
      absurd (omega (arith, small, last))
  | inr high ↦ high
]

-- a chain with a cell has a first link to a cell
pub begun : {next chain : ℕ → ℕ} {from b : ℕ} → IsChain next chain from b → (j : ℕ) → chain j ≡ b → from ≢ END
begun c j on e = omega (arith, passed c c.started e j on, c.rank.below j)

-- a chain to which nothing is added, and from which nothing is taken
chain_same : {next chain : ℕ → ℕ} (later now : ℕ → ℕ) {from b : ℕ} (i : ℕ) → IsChain next chain from b
    → chain i ≢ b → now i ≢ b
    → SameBut i chain now → ((j : ℕ) → chain j ≡ b → later j ≡ next j)
    → IsChain later now from b
chain_same {chain = chain} later now {b = b} i c off gone same links =
    let was : (j : ℕ) → now j ≡ b → chain j ≡ b = λ j e. sym (same j (λ q. gone (ap now (sym q) ∙ e))) ∙ e in
    let same_link : (from to : ℕ) → IsLink c.rank.of chain b from to → IsLink c.rank.of now b from to
    = λ from to l. record {
      on = λ ne. same to (λ q. off (ap chain (sym q) ∙ l.on ne)) ∙ l.on ne;
      falls = l.falls;
      whole = λ j e. l.whole j (was j e);
    } in
    record {
      rank = c.rank;
      small = λ j e. c.small j (was j e);
      started = same_link _ _ c.started;
      linked = λ j e. rw (links j (was j e)) (same_link _ _ (c.linked j (was j e)));
    }

-- a chain from which the cell i is taken
module _ {next chain : ℕ → ℕ} {start b : ℕ} (c : IsChain next chain start b) (i : ℕ) (on : chain i ≡ b)
    (now : ℕ → ℕ) (gone : now i ≢ b) (same : SameBut i chain now) where
  -- a cell that is still on it is not i
  other : (j : ℕ) → now j ≡ b → (j ≢ i) × (chain j ≡ b)
  other j e =
      let ne : j ≢ i = λ q. gone (ap now (sym q) ∙ e) in (ne, sym (same j ne) ∙ e)

  -- a link to another cell stays
  stays : {from to : ℕ} → IsLink c.rank.of chain b from to → to ≢ i → IsLink c.rank.of now b from to
  stays {to = to} l ne =
      record { on = λ go. same to ne ∙ l.on go; falls = l.falls; whole = λ j e. l.whole j (other j e).1 }

  -- a link to i becomes one to the cell after it
  past : {from : ℕ} → IsLink c.rank.of chain b from i → IsLink c.rank.of now b from (next i)
  past l =
      let n = c.linked i on in
      record {
        on = λ go. same (next i) (λ e. omega (arith, n.falls, ap c.rank.of e)) ∙ n.on go;
        falls = omega (arith, l.falls, n.falls);
        whole = λ j e low.
            let o = other j e in
            n.whole j o.1 (lower c.rank j i (c.small j o.1) (c.small i on) o.0 (l.whole j o.1 low));
      }

  -- only one link leads to i
  alone : {from : ℕ} (j : ℕ) → IsLink c.rank.of chain b from i → chain j ≡ b → c.rank.of i < c.rank.of j
      → from ≤ c.rank.of j
  alone {from} j l is falls = elim (cases_lt (c.rank.of j) from) as (λ _. from ≤ c.rank.of j)
      [ inl less ↦ absurd (omega (arith, l.whole j is less, falls)) | inr high ↦ high ]

  -- i is the first cell
  without_first : start ≡ i → IsChain next now (next i) b
  without_first e =
      let first = subst (IsLink c.rank.of chain b c.rank.top) e c.started in
      record {
        rank = c.rank;
        small = λ j is. c.small j (other j is).1;
        started = past first;
        linked = λ j is.
            let was = (other j is).1 in let l = c.linked j was in
            stays l (λ q. let q' = ap c.rank.of q in
            omega (arith, c.rank.below j, q', l.falls, alone j first was));
      }

  -- i is the cell after p
  without_next : (p : ℕ) (later : ℕ → ℕ) → chain p ≡ b → next p ≡ i → later p ≡ next i → SameBut p next later
      → IsChain later now start b
  without_next p later here leads cut links =
      let link = subst (IsLink c.rank.of chain b (c.rank.of p)) leads (c.linked p here) in
      record {
        rank = c.rank;
        small = λ j is. c.small j (other j is).1;
        started = stays c.started (λ e. let l = subst (IsLink c.rank.of chain b c.rank.top) e c.started in
            omega (arith, c.rank.below p, link.falls, alone p l here));
        linked = λ j is. elim (cases_eq j p) as (λ _. IsLink c.rank.of now b (c.rank.of j) (later j)) [
          | inl e ↦ rw (e, cut) (past link)
          | inr second ↦
              let was = (other j is).1 in
              rw (links j second) (stays (c.linked j was) (λ e.
              let l = subst (IsLink c.rank.of chain b (c.rank.of j)) e (c.linked j was) in
              let less = lower c.rank in
              second (c.rank.apart j p (let s = c.small j was in omega (arith, s))
              (let s = c.small p here in omega (arith, s))
              (omega (arith, alone j link was, alone p l here, link.falls, l.falls)))))
        ];
      }

-- a chain to which a cell is added as the first: it gets the highest rank
module _ {next chain : ℕ → ℕ} {start b : ℕ} (c : IsChain next chain start b) (i : ℕ) (low : i < END)
    (off : chain i ≢ b) (later now : ℕ → ℕ) (leads : later i ≡ start) (links : SameBut i next later)
    (joins : now i ≡ b) (same : SameBut i chain now) where
  module _ (rank : ℕ → ℕ) (here : rank i ≡ c.rank.top) (there : SameBut i c.rank.of rank) where
    abbrev raised : Ranks
    raised = record {
      of = rank;
      top = c.rank.top + 1;
      ends = there END (λ e. omega (arith, low, e)) ∙ c.rank.ends;
      below = λ j. elim (cases_eq j i) as (λ _. rank j < c.rank.top + 1) [
        | inl e ↦ omega (arith, ap rank e, here)
        | inr old ↦ omega (arith, there j old, c.rank.below j)
      ];
      apart = λ j k small large e. elim (cases_eq j i) as (λ _. j ≡ k) [
        | inl at ↦ elim (cases_eq k i) as (λ _. j ≡ k) [
          | inl too ↦ at ∙ sym too
          | inr old ↦ absurd (omega (arith, ap rank at, here, there k old, e, c.rank.below k))
        ]
        | inr old ↦ elim (cases_eq k i) as (λ _. j ≡ k) [
          | inl at ↦ absurd (omega (arith, ap rank at, here, there j old, e, c.rank.below j))
          | inr too ↦ c.rank.apart j k small large (sym (there j old) ∙ e ∙ there k too)
        ]
      ];
    }

    -- a link that was there before
    kept : {from to : ℕ} → from ≤ c.rank.top → IsLink c.rank.of chain b from to → IsLink rank now b from to
    kept {to = to} high l =
        let apart : to ≢ i = elim (cases_eq to END) as (λ _. to ≢ i)
        [ inl e ↦ λ q. omega (arith, low, e, q) | inr go ↦ λ q. off (ap chain (sym q) ∙ l.on go) ] in
        record {
          on = λ go. same to apart ∙ l.on go;
          falls = omega (arith, there to apart, l.falls);
          whole = λ j e less.
              let old : j ≢ i = λ q. omega (arith, ap rank q, here, less, high) in
              omega (arith, there j old, there to apart, l.whole j (sym (same j old) ∙ e), less);
        }

    joined : IsChain later now i b
    joined = record {
      rank = raised;
      small = λ j e. elim (cases_eq j i) as (λ _. j < END)
          [ inl q ↦ omega (arith, q, low) | inr old ↦ c.small j (sym (same j old) ∙ e) ];
      started = record {
        on = λ _. joins;
        falls = omega (arith, here);
        whole = λ j _ less. omega (arith, here, less);
      };
      linked = λ j e. elim (cases_eq j i) as (λ _. IsLink rank now b (rank j) (later j)) [
        | inl q ↦ rw (q, here, leads) (kept (omega arith) c.started)
        | inr old ↦ rw (there j old, links j old)
            (kept (omega (arith, c.rank.below j)) (c.linked j (sym (same j old) ∙ e)))
      ];
    }

  chain_with : IsChain later now i b
  chain_with =
      joined (λ j. cond (eqb j i) c.rank.top (c.rank.of j)) (rw (eq-eqb i i refl) refl)
      (λ j old. rw (ne_eqb j i old) refl)

-- the first link of b, after that of a was set
start_cases : (P : ℕ → Type 0) (starts : List ℕ) (a b x : ℕ) → b < length starts → (b ≡ a → P x)
    → (b ≢ a → P (get_or starts b END))
    → P (get_or (set starts a x) b END)
start_cases P starts a b x h here there = elim (cases_eq b a) as (λ _. P (get_or (set starts a x) b END)) [
  | inl e ↦ let within : a < length starts = omega arith in
      subst P (sym (ap (λ n. get_or (set starts a x) n END) e ∙ get_or-set_same starts a x END within))
      (here e)
  | inr ne ↦ subst P (sym (get_or-set_other starts a b x END ne)) (there ne)
]

-- the first cell is taken out of its chain
pub take_first : (starts : List ℕ) {next chain : ℕ → ℕ} (now : ℕ → ℕ) (a i : ℕ)
    → IsThreaded starts next chain
    → a < length starts → get_or starts a END ≡ i → chain i ≡ a → length starts ≤ now i → SameBut i chain now
    → IsThreaded (set starts a (next i)) next now
take_first starts {next} {chain} now a i t within first on off same b h =
    let below : b < length starts = omega (arith, length-set starts a (next i)) in
    let gone : now i ≢ b = λ e. omega (arith, off, below, e) in
    start_cases (λ from. IsChain next now from b) starts a b (next i) below
    (λ e. without_first (t b below) i (on ∙ sym e) now gone same (ap (λ n. get_or starts n END) e ∙ first))
    (λ apart. chain_same next now i (t b below) (λ e. apart (sym e ∙ on)) gone same (λ j _. refl))

-- the cell after p is taken out of their chain
pub take_next : (starts : List ℕ) {next chain : ℕ → ℕ} (later now : ℕ → ℕ) (p i : ℕ)
    → IsThreaded starts next chain
    → next p ≡ i → later p ≡ next i → SameBut p next later → chain i ≡ chain p → length starts ≤ now i
    → SameBut i chain now
    → IsThreaded starts later now
take_next starts {next} {chain} later now p i t leads cut links on off same b h =
    let gone : now i ≢ b = λ e. omega (arith, off, h, e) in
    elim (cases_eq (chain p) b) as (λ _. IsChain later now (get_or starts b END) b) [
      | inl e ↦ without_next (t b h) i (on ∙ e) now gone same p later e leads cut links
      | inr apart ↦ chain_same later now i (t b h) (λ e. apart (sym on ∙ e)) gone same
          (λ j e. links j (λ q. apart (ap chain (sym q) ∙ e)))
    ]

-- a cell that is on no chain is added to one
pub put_first : (starts : List ℕ) {next chain : ℕ → ℕ} (later now : ℕ → ℕ) (a i : ℕ)
    → IsThreaded starts next chain
    → a < length starts → i < END → length starts ≤ chain i → later i ≡ get_or starts a END
    → SameBut i next later → now i ≡ a → SameBut i chain now
    → IsThreaded (set starts a i) later now
put_first starts {next} {chain} later now a i t within low off leads links joins same b h =
    let below : b < length starts = omega (arith, length-set starts a i) in
    let out : chain i ≢ b = λ e. omega (arith, off, below, e) in
    start_cases (λ from. IsChain later now from b) starts a b i below
    (λ e. chain_with (t b below) i low out later now (leads ∙ ap (λ n. get_or starts n END) (sym e)) links
    (joins ∙ sym e) same)
    (λ apart. chain_same later now i (t b below) out (λ e. apart (sym e ∙ joins)) same
    (λ j e. links j (λ q. out (ap chain (sym q) ∙ e))))
