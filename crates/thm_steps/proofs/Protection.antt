-- L20: mapping in either edition keeps a memory in range (R9), the layout, the used length and PRG entries 0..23. Assumes nothing.
use Prim.Native.Nat.{ℕ, ◌/◌, ◌≤◌}
use mathlib.Core.Path.{refl}
use mathlib.Core.Bool.{Bool, ◌&&◌}
use native.Mathlib.Omega.{arith}
use Rattle.limits.proofs.Each.{cond-holds}
use Rattle.memory.specs.declared.Memory.{Memory}
use Rattle.memory.specs.Range.{Ranged}
use Rattle.memory_map.specs.Windows.{set_writable, set_prg_writable}
use Rattle.memory_map.proofs.Laws.Memory.{each-other, ranged-set-writable, typed-set-writable}
use Rattle.board_chip.specs.declared.namco163.Namco163.{Namco163}
use Rattle.board_chip.specs.Namco163.{is163}
use Rattle.board_protection.specs.Protection.{remap_banks}
use Rattle.board_protection.proofs.Laws.{protect-keeps}
use Rattle.thm_steps.proofs.Banking.{Steps, update-banks-keeps, ranged-steps, Kept, kept_self, kept-both, kept-steps}

-- what each step of the mapping and each part's flag keep, the mapping keeps
pub remap-banks-keeps : (P : Memory → Type 0) → Steps P
    → ((m : Memory) (addr : ℕ) (w : Bool) → 0x6000 ≤ addr → addr ≤ 0x7800 → P m → P (set_prg_writable m addr 2048 w))
    → (protects : Bool) (n : Namco163) (m : Memory) → P m → P (remap_banks protects n m)
unfolding remap_banks
remap-banks-keeps P steps part protects n m p =
    let u = update-banks-keeps P steps n m p in
    cond-holds P (protects && is163 n.board) _ _ (protect-keeps P part n.regs.prg_ram_protect _ u) u

pub remap-banks-ranged : (protects : Bool) (n : Namco163) (m : Memory) → Ranged m → Ranged (remap_banks protects n m)
remap-banks-ranged = remap-banks-keeps Ranged ranged-steps (λ m addr w lo hi r. ranged-set-writable m r addr 2048 w)

kept-part : (m : Memory) (addr : ℕ) (w : Bool) → 0x6000 ≤ addr → addr ≤ 0x7800 → Kept m (set_prg_writable m addr 2048 w)
unfolding set_prg_writable set_writable
kept-part m addr w lo hi =
    record {
      layout = refl;
      used = refl;
      low = λ i h. each-other 64 _ (addr / 1024) 2 m.prg_pages i (λ j k e. absurd (omega arith));
      typed = λ q. typed-set-writable m q addr 2048 w;
    }

pub remap-banks-kept : (protects : Bool) (n : Namco163) (m : Memory) → Kept m (remap_banks protects n m)
remap-banks-kept protects n m =
    remap-banks-keeps (Kept m) (kept-steps m) (λ k addr w lo hi q. kept-both q (kept-part k addr w lo hi)) protects n m (kept_self m)
