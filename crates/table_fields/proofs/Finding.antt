-- What stands before a byte, and the fields of a line, in the library's words on lists. What fields are is in the definitions of `table`.
use Rattle.std.proofs.Common.{◌≡◌, ℕ, zero, suc, ◌+◌, ◌-◌, Bool, true, false, cond, not, List, [], ◌∷◌, Option, Some, None, Bor, length, get_or, refl, sym, ap, ◌∙◌, arith}
use Rattle.std.specs.Prelude.{unwrap_or, slice_get, count_by, position}
use Rattle.std.specs.Option.{option_map}
use Rattle.std.specs.List.{position_or_len, slice_split, onto_first}
use Rattle.std.proofs.lemmas.List.Recursion.{is_count_by}
use Rattle.std.proofs.lemmas.List.Splits.{length-slice_split}
use Rattle.std.proofs.lemmas.Option.{unwrap_or-slice_get}
use lib.Dec.{eqb, ltb}
use borrow.Author.Tests.{ltb-false}
use Rattle.formula.specs.Refusals.{count}
use Rattle.table.specs.Parts.{tab, before, after, after_tabs, field, field_count}
use Rattle.table.proofs.PartsFound.{before_shorter}

-- ---- as many bytes stand before the first such byte as its place says
before-length : (b : ℕ) (s : List ℕ) → length (before b s) ≡ position_or_len (λ c. eqb c b) s
unfolding before
before-length b [] = refl
before-length b (c ∷ s) = go (eqb c b) (before-length b s)
  where
    go : (t : Bool) → length (before b s) ≡ position_or_len (λ c. eqb c b) s
        → length (cond t [] (c ∷ before b s)) ≡ cond (not t) (1 + position_or_len (λ c. eqb c b) s) 0
    go true e = refl
    go false e = omega arith

pub byte_found : (b : ℕ) (s : List ℕ) → unwrap_or (position (λ c. eqb c b) s) (length s) ≡ length (before b s)
byte_found b s = go (ltb (position_or_len (λ c. eqb c b) s) (length s)) refl
  where
    go : (t : Bool) → ltb (position_or_len (λ c. eqb c b) s) (length s) ≡ t
        → unwrap_or (cond t (Some (position_or_len (λ c. eqb c b) s)) None) (length s) ≡ length (before b s)
    go true p = sym (before-length b s)
    go false p = omega (arith, ltb-false (position_or_len (λ c. eqb c b) s) (length s) p, before-length b s, before_shorter b s)

-- ---- the parts that tabs cut a line into

-- Parts are as many as fields.
pub counted : (l : List ℕ) → count tab l ≡ count_by (λ c. eqb c tab) l
unfolding count
counted = is_count_by (count tab) (λ c. eqb c tab) refl (λ c s. go s (eqb c tab))
  where
    go : (s : List ℕ) (t : Bool) → cond t (suc (count tab s)) (count tab s) ≡ cond t (1 + count tab s) (count tab s)
    go s true = omega arith
    go s false = refl

pub fields_counted : (l : List ℕ) → length (slice_split (λ c. eqb c tab) l) ≡ field_count l
fields_counted l = omega (arith, length-slice_split (λ c. eqb c tab) l, counted l)

-- A byte in front stands in front of the first part.
onto-first : (c : ℕ) (parts : List (List ℕ)) → get_or (onto_first c parts) 0 [] ≡ c ∷ get_or parts 0 []
onto-first c [] = refl
onto-first c (p ∷ parts) = refl

onto-later : (c : ℕ) (parts : List (List ℕ)) (n : ℕ) → get_or (onto_first c parts) (suc n) [] ≡ get_or parts (suc n) []
onto-later c [] n = refl
onto-later c (p ∷ parts) n = refl

-- The tabs may be passed from the first one on.
tabs_inside : (n : ℕ) (l : List ℕ) → after_tabs (suc n) l ≡ after_tabs n (after tab l)
unfolding after_tabs
tabs_inside zero l = refl
tabs_inside (suc n) l = ap (λ s. after tab s) (tabs_inside n l)

tabs_nowhere : (n : ℕ) → after_tabs n [] ≡ []
unfolding after after_tabs
tabs_nowhere zero = refl
tabs_nowhere (suc n) = ap (λ s. after tab s) (tabs_nowhere n)

part_found : (l : List ℕ) (n : ℕ) → get_or (slice_split (λ c. eqb c tab) l) n [] ≡ before tab (after_tabs n l)
unfolding before after after_tabs
part_found [] zero = refl
part_found [] (suc n) = sym (ap (λ s. before tab s) (tabs_nowhere (suc n)))
part_found (c ∷ s) zero = go (eqb c tab) (part_found s 0)
  where
    go : (t : Bool) → get_or (slice_split (λ c. eqb c tab) s) 0 [] ≡ before tab s
        → get_or (cond t ([] ∷ slice_split (λ c. eqb c tab) s) (onto_first c (slice_split (λ c. eqb c tab) s))) 0 [] ≡ cond t [] (c ∷ before tab s)
    go true e = refl
    go false e = onto-first c (slice_split (λ c. eqb c tab) s) ∙ ap (λ r. c ∷ r) e
part_found (c ∷ s) (suc n) = go (eqb c tab) (part_found s n) (part_found s (suc n)) ∙ ap (λ r. before tab r) (sym (tabs_inside n (c ∷ s)))
  where
    go : (t : Bool) → get_or (slice_split (λ c. eqb c tab) s) n [] ≡ before tab (after_tabs n s)
        → get_or (slice_split (λ c. eqb c tab) s) (suc n) [] ≡ before tab (after_tabs (suc n) s)
        → get_or (cond t ([] ∷ slice_split (λ c. eqb c tab) s) (onto_first c (slice_split (λ c. eqb c tab) s))) (suc n) []
        ≡ before tab (after_tabs n (cond t s (after tab s)))
    go true e f = e
    go false e f = onto-later c (slice_split (λ c. eqb c tab) s) n ∙ f ∙ ap (λ r. before tab r) (tabs_inside n s)

-- The part that is found, or no byte where there are fewer parts.
pub field_found : (l : List ℕ) (n : ℕ) (found : Option (Bor (List ℕ))) (none : Bor (List ℕ)) → none.now ≡ []
    → option_map (λ x. x.now) found ≡ slice_get (slice_split (λ c. eqb c tab) l) (n - 1) → (unwrap_or found none).now ≡ field n l
field_found l n found none empty e =
    go found ∙ ap (λ o. unwrap_or o []) e ∙ unwrap_or-slice_get (slice_split (λ c. eqb c tab) l) (n - 1) [] ∙ part_found l (n - 1)
  where
    go : (o : Option (Bor (List ℕ))) → (unwrap_or o none).now ≡ unwrap_or (option_map (λ x. x.now) o) []
    go None = empty
    go (Some x) = refl
