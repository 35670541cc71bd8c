-- What a cycle leaves of the notes.
use Prim.Native.Nat.{◌+◌}
use mathlib.Core.Path.{◌≡◌, refl}
use mathlib.Core.Bool.{Bool, true, false, cond}
use lib.Dec.{eqb}
use Rattle.thm_wiki.specs.Machine.{Wiki, cycle}
use Rattle.thm_wiki.specs.Notes.{Notes, note_update, note}

-- what is noted of the registers is the same
pub record SameRegs (t u : Notes) : Type 0 where
  pub selects : u.selects ≡ t.selects
  pub enable : u.enable ≡ t.enable
  pub past : u.past ≡ t.past
  pub mirrored : u.mirrored ≡ t.mirrored
  pub turned : u.turned ≡ t.turned

-- no cycle notes anything of the registers
pub cycle-notes : (w : Wiki) (t : Notes) → SameRegs t (note w t cycle)
unfolding note
cycle-notes w t = go w.sound.silent (eqb (w.sound.timer + 1) 15)
  where
    go : (y z : Bool) → SameRegs t (cond y t (cond z (note_update w.sound t) t))
    go true z = record { selects = refl; enable = refl; past = refl; mirrored = refl; turned = refl }
    go false true = record { selects = refl; enable = refl; past = refl; mirrored = refl; turned = refl }
    go false false = record { selects = refl; enable = refl; past = refl; mirrored = refl; turned = refl }
