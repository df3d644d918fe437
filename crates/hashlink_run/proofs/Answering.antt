-- A run that has answered some of its commands.
use Rattle.std.proofs.Common.{◌≡◌, List, [], ◌∷◌, ◌++◌, length, refl, sym, ap, ◌∙◌, subst, append_assoc}
use Rattle.std.proofs.Common.{append-nil, arith}
use Rattle.hashlink_run.specs.Chain.{Answered, Chain, Chained, replies_of, state_after}
use Rattle.hashlink_run.proofs.Chained.{Chain-more, replies_of-more, state_after-append}

module _ {C R M : Type 0} (Step : M → C → List R → M → Type 0) where
  -- the first commands have been answered by `replies`, and `rest` are left
  pub record HasAnswered (start now : M) (all rest : List C) (replies : List R) : Type 0 where
    pub done : List C
    pub answers : List (Answered R M)
    pub is : all ≡ done ++ rest
    pub chain : Chain Step start done answers
    pub joined : replies ≡ replies_of answers
    pub reached : now ≡ state_after start answers

  pub HasAnswered-none : (start : M) (all : List C) → HasAnswered start start all all []
  HasAnswered-none start all = record {
    done = [];
    answers = [];
    is = refl;
    chain = tt;
    joined = refl;
    reached = refl;
  }

  module _ {start now : M} {all : List C} {replies : List R} where
    pub HasAnswered-more : (command : C) (rest : List C) (more : List R) (next : M)
        → HasAnswered start now all (command ∷ rest) replies → Step now command more next
        → HasAnswered start next all rest (replies ++ more)
    HasAnswered-more command rest more next h step =
        let answered : Answered R M = record { replies = more; state = next } in
        let from : Step (state_after start h.answers) command more next =
        subst (λ m. Step m command more next) h.reached step in
        record {
          done = h.done ++ command ∷ [];
          answers = h.answers ++ answered ∷ [];
          is = h.is ∙ sym (append_assoc h.done (command ∷ []) rest);
          chain = Chain-more Step start h.done h.answers command answered h.chain from;
          joined = ap (λ rs. rs ++ more) h.joined ∙ sym (replies_of-more h.answers answered);
          reached = sym (state_after-append start h.answers (answered ∷ []));
        }

    pub HasAnswered-all : (rest : List C) → length rest ≡ 0 → HasAnswered start now all rest replies
        → Chained Step start all replies now
    HasAnswered-all [] end h =
        let whole : h.done ≡ all = sym (append-nil h.done) ∙ sym h.is in
        record {
          answers = h.answers;
          chain = subst (λ cs. Chain Step start cs h.answers) whole h.chain;
          joined = h.joined;
          reached = h.reached;
        }
    HasAnswered-all (command ∷ rest) end h = absurd (omega arith)
