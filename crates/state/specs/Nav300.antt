-- Rule 2.10: the settings of the NAV300, how they are set, and their ranges.
use Rattle.std.specs.Prelude.{Bool, ◌&&◌, ℕ, leb}
use Rattle.units.specs.Units.{percent, millimetres}
use Rattle.state.specs.declared.Reflector.{Reflector}
use Rattle.state.specs.declared.Settings.{Settings}

-- so many percent and so many millimetres (rule 2.10)
abbrev pub reflector : ℕ → ℕ → Reflector
reflector threshold radius = record { threshold = percent threshold; radius = millimetres radius }

-- the settings of a direction of rotation, a working pair and a stored pair (rule 2.10)
abbrev pub settings_of : ℕ → Reflector → Reflector → Settings
settings_of rotation working stored = record { rotation = rotation; working = working; stored = stored }

-- the direction of rotation set (rule 4.19)
abbrev pub with_rotation : Settings → ℕ → Settings
with_rotation n rotation = settings_of rotation n.working n.stored

-- the working pair set (rule 4.20)
abbrev pub with_reflector : Settings → Reflector → Settings
with_reflector n r = settings_of n.rotation r n.stored

-- the stored pair as the working one is (rule 4.22)
abbrev pub saved : Settings → Settings
saved n = settings_of n.rotation n.working n.working

-- the working pair as the stored one is (rule 4.12)
abbrev pub restored : Settings → Settings
restored n = settings_of n.rotation n.stored n.stored

-- 0, anti-clockwise, or 1, clockwise (rule 2.10)
abbrev pub rotation_ok : ℕ → Bool
rotation_ok rotation = leb rotation 1

-- a threshold, in percent (rule 2.10)
abbrev pub threshold_ok : ℕ → Bool
threshold_ok threshold = leb 1 threshold && leb threshold 100

-- a radius, in millimetres (rule 2.10)
abbrev pub radius_ok : ℕ → Bool
radius_ok radius = leb radius 127

-- both (rule 2.10)
abbrev pub reflector_ok : Reflector → Bool
reflector_ok r = threshold_ok r.threshold.0 && radius_ok r.radius.0

-- all of them (rule 2.10)
abbrev pub settings_ok : Settings → Bool
settings_ok n = rotation_ok n.rotation && reflector_ok n.working && reflector_ok n.stored
