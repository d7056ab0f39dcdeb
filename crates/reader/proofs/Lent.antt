-- What is asked by a place below a number: the number for no, and the part of the caller's words that is lent.
use Prim.Native.Nat.{ℕ, ◌+◌, ◌-◌, ◌*◌, ◌≤◌, ◌<◌}
use mathlib.Core.Path.{◌≡◌, refl, ◌∙◌}
use mathlib.Core.Bool.{Bool, true, false}
use mathlib.Core.List.{List, []}
use native.Mathlib.Nat.{add-sub_cancel_left}
use lib.Dec.{eqb, ltb}
use lib.ListN.{take, drop}
use denote.Ref.{Bor}
use borrow.Author.Tests.{ne_eqb, lt-ltb, le-ltb}
use Rattle.std.specs.Prelude.{if◌then◌else◌, Ok, Err}
use Rattle.reader.specs.declared.ReadRefusal.{ReadRefusal}
use Rattle.reader.specs.declared.ReadRefusal.TheVariants.{NoSuchPlace}
use Rattle.reader.specs.Said.{Nowhere, refusal_number, refusal_place, SaysWhy}
use Rattle.reader.specs.Lent.{found_below}
use Rattle.reader.proofs.Heads.{some_number}
use Rattle.reader.specs.MixedStretches.{Lends}

-- the reader's number, or 17 where the place is not below
abbrev pub number_by : ℕ → ℕ → ℕ → ℕ
number_by refusal many place = if eqb refusal 0 then (if ltb place many then 0 else 17) else refusal

module _ {P : Type 0} (many place : ℕ) where
  -- the reader's refusal comes first
  pub reader_first : (e : ReadRefusal P) → SaysWhy (number_by (refusal_number e) many place) (refusal_place e) (Err e)
  reader_first e = record { number_is = rw (ne_eqb (refusal_number e) 0 (some_number e)); place_is = refl }

  -- then the place
  pub place_next : SaysWhy {P = P} (number_by 0 many place) Nowhere (found_below place many)
  place_next = go (ltb place many)
    where
      go : (t : Bool) → SaysWhy {P = P} (if t then 0 else 17) Nowhere (if t then Ok tt else Err NoSuchPlace)
      go true = record { number_is = refl; place_is = refl }
      go false = record { number_is = refl; place_is = refl }

-- so many words from a place on, as `&words[start..start + len]` lends them; nothing where the place is not below
abbrev pub lent_by : ℕ → ℕ → ℕ → ℕ → List ℕ → List ℕ
lent_by many place start len ws = if ltb place many then take len (drop start ws) else []

abbrev pub start_by : ℕ → ℕ → ℕ → ℕ
start_by many place start = if ltb place many then start else 0

module _ (words : Bor (List ℕ)) (many place start len : ℕ) (part : Bor (List ℕ)) where
  pub part_lent : place < many → part.now ≡ take (start + len - start) (drop start words.now)
      → part.ref_ptr ≡ (words.ref_ptr.0, start * 2 + words.ref_ptr.1)
      → Lends words (lent_by many place start len words.now) (start_by many place start) part
  part_lent h e p = rw (lt-ltb place many h) (record { lends = e ∙ rw add-sub_cancel_left; stands = p })

  pub none_lent : many ≤ place → part.now ≡ [] → part.ref_ptr ≡ (words.ref_ptr.0, 0 * 2 + words.ref_ptr.1)
      → Lends words (lent_by many place start len words.now) (start_by many place start) part
  none_lent h e p = rw (le-ltb place many h) (record { lends = e; stands = p })
