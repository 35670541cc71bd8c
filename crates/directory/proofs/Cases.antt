-- Registerings, pages and drops at their edges, computed from the definitions.
use Rattle.std.proofs.Common.{◌≡◌, ℕ, true, false, List, [], ◌∷◌, set, replicate, refl}
use Rattle.directory.specs.Block.{fits, under, holds, word_of}
use Rattle.directory.specs.Fit.{any, sound, fit}
use Rattle.directory.specs.Calls.{register_refusal, put}
use Rattle.directory.specs.Drop.{some_below, goes, gone, dropped, pages_under}

abbrev empty : List ℕ
empty = replicate 256 0

-- N8, N13: starts and lengths at their limits
record Edges : Type 0 where
  pub r1 : register_refusal empty 0x47FF 1 ≡ 8
  pub r2 : register_refusal empty 0x4800 1 ≡ 13
  pub r3 : register_refusal empty 0x5FFF 2 ≡ 13
  pub r4 : register_refusal empty 0x6000 0 ≡ 13
  pub r5 : register_refusal empty 0x6000 1 ≡ 0
  pub r6 : register_refusal empty 0x6000 4096 ≡ 0
  pub r7 : register_refusal empty 0x6000 4097 ≡ 13
  pub r8 : register_refusal empty 0x6000 65537 ≡ 13
  pub r9 : register_refusal empty 0xF000 4096 ≡ 0
  pub r10 : register_refusal empty 0xF001 4096 ≡ 13
  pub r11 : register_refusal empty 0xFFFF 1 ≡ 0
  pub r12 : register_refusal empty 0xFFFF 2 ≡ 13

edges : Edges
unfolding register_refusal fit sound fits any holds
edges =
    record {
      r1 = refl;
      r2 = refl;
      r3 = refl;
      r4 = refl;
      r5 = refl;
      r6 = refl;
      r7 = refl;
      r8 = refl;
      r9 = refl;
      r10 = refl;
      r11 = refl;
      r12 = refl;
    }

-- K5: the pages under a block, and what a touched page drops
record Pages : Type 0 where
  pub p1 : pages_under 0x6000 1024 ≡ 0x1000000
  pub p2 : pages_under 0x63FF 4096 ≡ 0x1F000000
  pub p3 : pages_under 0xFFFF 1 ≡ 0x8000000000000000
  pub g1 : goes 0x2000000 0x63F8 16 ≡ true
  pub g2 : goes 0x2000000 0x6000 16 ≡ false
  pub g3 : goes 0x2000000 0x6000 1024 ≡ false
  pub g4 : goes 0xFF00000000 0x9FFF 2 ≡ true
  pub g5 : goes 0xFF00000000 0xA000 1 ≡ false

pages : Pages
unfolding pages_under goes some_below under
pages = record { p1 = refl; p2 = refl; p3 = refl; g1 = refl; g2 = refl; g3 = refl; g4 = refl; g5 = refl }

-- a start held twice, places apart, and a place with a number and no start are unfit
abbrev block : ℕ
block = word_of 0x8000 16 7

record Unfit : Type 0 where
  pub twice : fit (set (set empty 3 block) 200 block) ≡ false
  pub startless : fit (set empty 3 7) ≡ false
  pub once : fit (set empty 200 block) ≡ true
  pub short : fit [] ≡ false

unfit : Unfit
unfolding fit sound fits any holds
unfit = record { twice = refl; startless = refl; once = refl; short = refl }

-- K3, K5: a new block among three, and the same without the block of page 24; a free place between blocks is taken, and stays
abbrev low : ℕ
low = word_of 0x6000 16 1

abbrev high : ℕ
high = word_of 0xA000 16 2

record Places : Type 0 where
  pub between : put block (low ∷ high ∷ 0 ∷ []) ≡ low ∷ block ∷ high ∷ []
  pub gap : put block (low ∷ 0 ∷ high ∷ []) ≡ low ∷ block ∷ high ∷ []
  pub goes_first : dropped 0x1000000 (low ∷ block ∷ high ∷ []) ≡ block ∷ high ∷ 0 ∷ []
  pub keeps-gap : dropped 0x1000000 (block ∷ 0 ∷ low ∷ high ∷ []) ≡ block ∷ 0 ∷ high ∷ 0 ∷ []
  pub keeps-all : dropped 0x2000000 (low ∷ 0 ∷ block ∷ []) ≡ low ∷ 0 ∷ block ∷ []

places : Places
unfolding put dropped gone goes some_below under
places = record { between = refl; gap = refl; goes_first = refl; keeps-gap = refl; keeps-all = refl }
