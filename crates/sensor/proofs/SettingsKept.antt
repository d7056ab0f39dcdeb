-- The settings of the NAV300 are kept by every request but those of their own services and DO_RESET: by what the rows of the table name.
use mathlib.Core.Path.{◌≡◌, refl, ap, ◌∙◌}
use mathlib.Core.Bool.{Bool, true, false, not, ◌&&◌}
use mathlib.Core.List.{List, [], ◌∷◌}
use Prim.Native.Nat.{ℕ}
use lib.Dec.{T, eqb}
use lib.ListN.{get_or}
use borrow.Author.Tests.{eqb-true}
use Rattle.std.specs.Prelude.{if◌then◌else◌}
use Rattle.words.specs.Lists.{every}
use Rattle.words.proofs.Tests.{and_l, and_r}
use Rattle.state.specs.declared.State.{State}
use Rattle.state.specs.Changes.{Part, is_one_of}
use Rattle.state.specs.Changes as part
use Rattle.sensor.specs.declared.Service.{Service}
use Rattle.sensor.specs.Table.{row_of, services, named, service_of}
use Rattle.sensor.specs.Demands.{asks_none, SettingsKept}
use Rattle.sensor.proofs.Served.{only_these}

-- a row that names the part is one of these services'
abbrev named_by : Part → List Service → Service → Bool
named_by p us v = not (is_one_of p (row_of v).changes && asks_none ((row_of v).code ∷ []) us)

not_both : (x y : Bool) → T (not (x && y)) → T y → x ≡ false
not_both false y h k = refl
not_both true true h k = absurd h
not_both true false h k = absurd k

-- so the row of another code does not name it
not_named : (p : Part) (us : List Service) (code : ℕ) (vs : List Service) → T (every (named_by p us) vs) → T (asks_none (code ∷ []) us)
    → is_one_of p (row_of (named code vs)).changes ≡ false
not_named p us code [] h n = refl
not_named p us code (v ∷ vs) h n =
    go (eqb code (row_of v).code) refl (not_named p us code vs (and_r (named_by p us v) (every (named_by p us) vs) h) n)
  where
    own : T (asks_none ((row_of v).code ∷ []) us) → is_one_of p (row_of v).changes ≡ false
    own = not_both (is_one_of p (row_of v).changes) (asks_none ((row_of v).code ∷ []) us) (and_l (named_by p us v) (every (named_by p us) vs) h)

    go : (b : Bool) → eqb code (row_of v).code ≡ b → is_one_of p (row_of (named code vs)).changes ≡ false
        → is_one_of p (row_of (if b then v else named code vs)).changes ≡ false
    go true e r = own (rw (eqb-true code (row_of v).code e) at n)
    go false e r = r

unnamed : (p : Part) (us : List Service) (ws : List ℕ) → T (every (named_by p us) services) → T (asks_none ws us)
    → is_one_of p (row_of (service_of (get_or ws 0 0))).changes ≡ false
unfolding service_of
unnamed p us ws h n = not_named p us (get_or ws 0 0) services h n

pub settings_kept : SettingsKept
settings_kept s ws room =
    let only = (only_these s ws room).only in
    record {
      rotation = λ n. ap (λ (t : State). t.settings.rotation) only ∙ rw (unnamed part.rotation (Service.SetRotateDirection ∷ []) ws tt n);
      working =
          λ n. ap (λ (t : State). t.settings.working) only
          ∙ rw (unnamed part.reflector (Service.SetReflectorConfig ∷ Service.DoReset ∷ []) ws tt n);
      stored = λ n. ap (λ (t : State). t.settings.stored) only ∙ rw (unnamed part.saved (Service.SavePermanent ∷ []) ws tt n);
    }
