-- A text means what is read from it: a line is read as the one whose spelling it is. The words of a spelling
-- and the words as they are read determine each other, so a reader is compared with a spelling word by word.
use Rattle.std.proofs.Common.{◌≡◌, ℕ, ◌^◌, ◌<◌, ◌⊎◌, Bool, true, false, ◌&&◌, cond, not, nat_eq, nat_lt, List}
use Rattle.std.proofs.Common.{[], ◌∷◌, length, get_or, zero, suc, Option, None, Some, option_and_then, map}
use Rattle.std.proofs.Common.{decimal, refl, sym, ap, ap₂, ◌∙◌, subst, inl, inr, ⊎_elim, arith, lit<, is_none}
use Rattle.std.specs.{Map.lookup, Option.{option_map, option_map_or}, Str.Parse.{AllDigits, digits_value}}
use Rattle.std.specs.{List.{All, AllByRecursion, join_with_byte}, Str.{all_ascii_digits, bytes_eq}}
use Rattle.std.proofs.lemmas.{Bool.{and_parts, not-true, ne_eqb, lt-ltb, ltb-true}, Slice.Eq.bytes_eq-Decides}
use Rattle.std.proofs.lemmas.{Option.{cond_some, same_Some, none-some}, List.Elements.{All-nil, All-cons}}
use Rattle.std.proofs.lemmas.{List.Sums.AllPass-from_list_all, Str.Parse.digit_from_value}
use Rattle.std.proofs.lemmas.List.Splits.{slice_split_none, slice_split_at, join_with_byte-slice_split}
use Rattle.std.proofs.lemmas.Fmt.{decimal_is_IsNumeral, decimal_digit, first_decimal, decimal-digits_value}
use Rattle.hashlink_text.specs.Lines.{words_of, begins_as_number, value_of, number_of}
use Rattle.hashlink_text.specs.Reading.{first_name, by_name, read_in, read_words, word_of, token_of}
use Rattle.hashlink_text.specs.Reading.{are_names, has_no_space, IsRead, AllNamed, EachNamed, EachFound}
use Rattle.hashlink_text.specs.Reading.{IsNamed}
use Rattle.hashlink_text.specs.Spelling.{Word, Name, Number, word_shown, FitsWord, Spells, Says}
use Rattle.hashlink_text.{specs.Tables.{Token, tokens, numbers_of}, proofs.Digits.digits_model}

-- ---- the results of a choice, of a step that may fail, and of a map

pub chosen : {X : Type 0} (b : Bool) (x y z : X) → cond b x y ≡ z → ((b ≡ true) × (x ≡ z))
    ⊎ ((b ≡ false) × (y ≡ z))
chosen true x y z e = inl (refl, e)
chosen false x y z e = inr (refl, e)

pub step_some : {A B : Type 0} (f : A → Option B) (o : Option A) (y : B) → option_and_then f o ≡ Some y
    → (x : A) × (o ≡ Some x) × (f x ≡ Some y)
step_some f None y e = cc
step_some f (Some x) y e = (x, refl, e)

pub map_some : {A B : Type 0} (f : A → B) (o : Option A) (y : B) → option_map f o ≡ Some y
    → (x : A) × (o ≡ Some x) × (f x ≡ y)
map_some f None y e = cc
map_some f (Some x) y e = (x, refl, cc)

-- ---- numbers

begins_as_number-facts : (word : List ℕ) → begins_as_number word ≡ true
    → (0 < length word) × (get_or word 0 0 ≡ 48 → length word ≡ 1)
begins_as_number-facts [] e = cc
begins_as_number-facts (d ∷ []) e = (omega arith, λ _. refl)
begins_as_number-facts (d ∷ c ∷ ds) e =
    (omega arith, λ zero. absurd (let t : not (nat_eq d 48) ≡ false = rw zero refl in cc))

-- a word that spells a number is the number as it is printed
number_of-spelled : (word : List ℕ) (n : ℕ) → number_of word ≡ Some n → (decimal n ≡ word) × (n < 2 ^ 64)
number_of-spelled word n e =
    ⊎_elim (λ (starts : (begins_as_number word ≡ true) × (value_of word ≡ Some n)).
    let value =
    cond_some (all_ascii_digits word && nat_lt (digits_value 10 word) (2 ^ 64))
    (digits_value 10 word) n starts.1 in
    let tests = and_parts (all_ascii_digits word) (nat_lt (digits_value 10 word) (2 ^ 64)) value.0 in
    let facts = begins_as_number-facts word starts.0 in
    let low = ltb-true _ _ tests.1 in (
      ap decimal (sym value.1) ∙ decimal-digits_value digits_model word tests.0 facts.0 facts.1 low,
      subst (λ m. m < 2 ^ 64) value.1 low,
    ))
    (λ no. cc)
    (chosen (begins_as_number word) (value_of word) None (Some n) e)

begins_as_number-above : (word : List ℕ) → 48 < get_or word 0 0 → begins_as_number word ≡ true
begins_as_number-above [] above = absurd (omega arith)
begins_as_number-above (d ∷ []) above = refl
begins_as_number-above (d ∷ c ∷ ds) above = rw (ne_eqb d 48 (λ e. omega arith)) refl

number_of-decimal : (n : ℕ) → n < 2 ^ 64 → number_of (decimal n) ≡ Some n
number_of-decimal zero low = rw (decimal_digit 0 (lit< tt)) refl
number_of-decimal (suc m) low =
    let n : ℕ = suc m in
    let numeral = decimal_is_IsNumeral n low in
    let begins = begins_as_number-above (decimal n) (first_decimal n (omega arith) low) in
    let all = digits_model.from (decimal n) numeral.0.1 in
    let fits : nat_lt n (2 ^ 64) ≡ true = lt-ltb n (2 ^ 64) low in
    rw (begins, all, numeral.1, fits) refl

-- ---- words as they are read, and the words of a spelling

abbrev pub shown : List Word → List (List ℕ)
shown words = map word_shown words

shown-word_of : (written : List (List ℕ))
    → (shown (map word_of written) ≡ written) × AllByRecursion FitsWord (map word_of written)
shown-word_of [] = (refl, tt)
shown-word_of (word ∷ written) =
    let one = by (number_of word) refl in
    let more = shown-word_of written in
    (ap₂ (λ w ws. w ∷ ws) one.0 more.0, (one.1, more.1))
  where
    by : (o : Option ℕ) → number_of word ≡ o
        → (word_shown (option_map_or Number o (Name word)) ≡ word)
        × FitsWord (option_map_or Number o (Name word))
    by None e = (refl, tt)
    by (Some n) e = number_of-spelled word n e

-- no space in a word
abbrev Spaceless : List ℕ → Type 0
Spaceless word = All (λ b. nat_eq b 32 ≡ false) word

spaceless : (word : List ℕ) → has_no_space word ≡ true → Spaceless word
spaceless word e = λ k d at. not-true _ (AllPass-from_list_all (λ b. not (nat_eq b 32)) word e k d at)

Spaceless-digits : (digits : List ℕ) → AllDigits 10 digits → Spaceless digits
Spaceless-digits [] h = All-nil (λ b. nat_eq b 32 ≡ false)
Spaceless-digits (d ∷ digits) h =
    let digit = digit_from_value d h.0 in
    All-cons (λ b. nat_eq b 32 ≡ false) d digits (ne_eqb d 32 (λ e. omega arith))
    (Spaceless-digits digits h.1)

words_of-join : (word : List ℕ) (words : List (List ℕ)) → AllByRecursion Spaceless (word ∷ words)
    → words_of (join_with_byte 32 (word ∷ words)) ≡ word ∷ words
words_of-join word [] h = slice_split_none (λ b. nat_eq b 32) word h.0
words_of-join word (next ∷ words) h =
    slice_split_at (λ b. nat_eq b 32) word 32 (join_with_byte 32 (next ∷ words)) h.0 refl
    ∙ ap (λ ws. word ∷ ws) (words_of-join next words h.1)

is_none-None : {X : Type 0} (o : Option X) → is_none o ≡ true → o ≡ None
is_none-None None e = refl
is_none-None (Some x) e = cc

tokens-shown : (words : List Word) → AllByRecursion FitsWord words → are_names words ≡ true
    → (tokens (shown words) ≡ map token_of words) × AllByRecursion Spaceless (shown words)
tokens-shown [] fit e = (refl, tt)
tokens-shown (Name name ∷ words) fit e =
    let parts = and_parts (has_no_space name) (is_none (number_of name) && are_names words) e in
    let names = and_parts (is_none (number_of name)) (are_names words) parts.1 in
    let more = tokens-shown words fit.1 names.1 in
    (ap₂ (λ o ts. (name, o) ∷ ts) (is_none-None _ names.0) more.0, (spaceless name parts.0, more.1))
tokens-shown (Number n ∷ words) fit e =
    let more = tokens-shown words fit.1 e in (
      ap₂ (λ o ts. (decimal n, o) ∷ ts) (number_of-decimal n fit.0) more.0,
      (Spaceless-digits (decimal n) (decimal_is_IsNumeral n fit.0).0.1, more.1),
    )

-- ---- what is read from words is what a text means

module _ {X : Type 0} (spell : X → Option (List Word)) where
  module _ (read : List Token → Option X) where
    -- if x is read from words, it has them
    abbrev pub IsOf : List (List ℕ) → Type 0
    IsOf written = (x : X) → read (tokens written) ≡ Some x → spell x ≡ Some (map word_of written)

    pub record IsReader : Type 0 where
      pub empty : read [] ≡ None
      pub from : (written : List (List ℕ)) → IsOf written
      pub to : (x : X) → IsRead read (spell x) x

    -- a text means what is read from it
    abbrev pub SaysWhatIsRead : Type 0
    SaysWhatIsRead = (text : List ℕ) (said : Option X) → said ≡ read (tokens (words_of text))
        → Says spell text said

module _ {X : Type 0} {spell : X → Option (List Word)} {read : List Token → Option X}
    (is : IsReader spell read) where
  read_back : (x : X) (words : List Word) → AllByRecursion FitsWord words → IsRead read (Some words) x
      → read (tokens (words_of (join_with_byte 32 (shown words)))) ≡ Some x
  read_back x [] fit h = absurd (none-some x (sym is.empty ∙ h.1))
  read_back x (word ∷ words) fit h =
      let t = tokens-shown (word ∷ words) fit h.0 in
      ap (λ ws. read (tokens ws)) (words_of-join (word_shown word) (shown words) t.1) ∙ ap read t.0 ∙ h.1

  pub says_read : (text : List ℕ) → Says spell text (read (tokens (words_of text)))
  says_read text =
      let back = shown-word_of (words_of text) in
      record {
        one = λ x. (
          λ e. record {
            words = map word_of (words_of text);
            spelled = is.from (words_of text) x e;
            fit = back.1;
            is = sym (ap (join_with_byte 32) back.0 ∙ join_with_byte-slice_split 32 text);
          },
          λ s. ap (λ t. read (tokens (words_of t))) s.is
              ∙ read_back x s.words s.fit (subst (λ o. IsRead read o x) s.spelled (is.to x)),
        );
      }

  pub says_as : SaysWhatIsRead spell read
  says_as text said is = subst (Says spell text) (sym is) (says_read text)

  -- no two have the same spelling
  pub one_spelling : (a b : X) (text : List ℕ) → Spells spell a text → Spells spell b text → a ≡ b
  one_spelling a b text p q =
      let read = says_read text in
      same_Some a b (sym ((read.one a).1 p) ∙ (read.one b).1 q)

  -- so a text means only what is read from it
  pub said_is : (text : List ℕ) (said : Option X) → Says spell text said
      → said ≡ read (tokens (words_of text))
  said_is text said s = by said (read (tokens (words_of text))) s (says_read text)
    where
      by : (a b : Option X) → Says spell text a → Says spell text b → a ≡ b
      by (Some x) b p q = sym ((q.one x).1 ((p.one x).0 refl))
      by None None p q = refl
      by None (Some y) p q = (p.one y).1 ((q.one y).0 refl)

-- ---- a name and numbers

numbers_of-written : (written : List (List ℕ)) (ns : List ℕ) → numbers_of (tokens written) ≡ Some ns
    → map word_of written ≡ map Number ns
numbers_of-written [] ns e = let none : [] ≡ ns = cc in rw (← none) refl
numbers_of-written (word ∷ written) ns e =
    let rest = numbers_of (tokens written) in
    let first = step_some (λ n. option_map (λ ns. n ∷ ns) rest) (number_of word) ns e in
    let more = map_some (λ ns. first.0 ∷ ns) rest ns first.2 in
    rw (first.1, numbers_of-written written more.0 more.1) (ap (map Number) more.2)

module _ {X : Type 0} (spell : X → Option (List Word)) (among : List ℕ → List X) where
  named_so : (ns name : List ℕ) (x : X) (xs : List X) → AllNamed spell ns xs
      → lookup (bytes_eq name) (map (λ x. (first_name (spell x), x)) xs) ≡ Some x
      → spell x ≡ Some (word_of name ∷ map Number ns)
  named_so ns name x [] all e = cc
  named_so ns name x (y ∷ xs) all e =
      ⊎_elim (λ yes.
      let is = (bytes_eq-Decides name (first_name (spell y))).0 yes.0 in
      let same : y ≡ x = same_Some y x yes.1 in
      let named_y : spell y ≡ Some (word_of (first_name (spell y)) ∷ map Number ns) = cc in
      ap spell (sym same) ∙ named_y ∙ ap (λ n. Some (word_of n ∷ map Number ns)) (sym is))
      (λ no. named_so ns name x xs (cc) no.1)
      (chosen (bytes_eq name (first_name (spell y))) (Some y)
      (lookup (bytes_eq name) (map (λ x. (first_name (spell x), x)) xs)) (Some x) e)

  module _ (all : EachNamed spell among) where
    pub read_in-of : (name : List ℕ) (written : List (List ℕ)) (x : X)
        → read_in spell among name (tokens written) ≡ Some x → spell x ≡ Some (map word_of (name ∷ written))
    read_in-of name written x e =
        let named = λ (ns : List ℕ). lookup (bytes_eq name) (by_name spell among ns) in
        let ns = step_some named (numbers_of (tokens written))
        x e in
        named_so ns.0 name x (among ns.0) (all ns.0) ns.2
        ∙ ap (λ ws. Some (word_of name ∷ ws)) (sym (numbers_of-written written ns.0 ns.1))

    pub read_words-of : (written : List (List ℕ)) → IsOf spell (read_words spell among) written
    read_words-of [] x e = cc
    read_words-of (name ∷ written) x e = read_in-of name written x e

    -- a line that is a name and numbers
    pub reads_names : EachFound spell among → IsReader spell (read_words spell among)
    reads_names found = record { empty = refl; from = read_words-of; to = found }

-- a text means what is read from its words
pub says_named : {X : Type 0} {spell : X → Option (List Word)} {among : List ℕ → List X} → IsNamed spell among
    → SaysWhatIsRead spell (read_words spell among)
says_named {spell = spell} {among = among} is = says_as (reads_names spell among is.named is.found)
