-- L1: `Memory::new`.
use Rattle.std.specs.Prelude.{replicate}
use Rattle.memory.specs.declared.Memory.{Memory}
use Rattle.memory.specs.declared.layout.MemoryLayout.{MemoryLayout}
use Rattle.memory.specs.declared.mirroring.Mirroring.TheVariants.{Horizontal}
use Rattle.memory.specs.Layout.{layout_of}
use Rattle.memory_map.specs.Mirroring.{set_mirroring}
use Rattle.memory.specs.Page.{unmapped}

-- R2, R8: page counts, no battery byte used, every entry unmapped
unfoldable pub unmapped_memory : MemoryLayout → Memory
unmapped_memory s =
    record {
      layout = layout_of s;
      battery_ext_len = 0;
      prg_pages = replicate 64 unmapped;
      chr_pages = replicate 16 unmapped;
    }

-- the Rust's default mirroring is Horizontal
unfoldable pub new_memory : MemoryLayout → Memory
new_memory s = set_mirroring (unmapped_memory s) Horizontal
