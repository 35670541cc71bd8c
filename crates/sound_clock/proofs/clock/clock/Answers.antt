-- A clock while disabled, at an update and between two updates: one answer each.
use Rattle.std.proofs.Common.{◌≡◌, ℕ, sym, ◌∙◌, refl, arith}
use Rattle.sound.proofs.audio.Range.{other-range}
use Rattle.sound.specs.declared.audio.Audio.{Audio}
use Rattle.sound.specs.Audio.{with_counter, with_channel}
use Rattle.sound_wave.specs.Channel.{channel_count}
use Rattle.sound_clock.specs.Clock.{next_channel, update_channel, updated}
use Rattle.sound_clock.proofs.run.Laws.{clock-off, clock-due, clock-quiet}
use Rattle.sound_clock.proofs.clock.clock.Goals as goal

pub returns-then-a : goal.returns-then-a
returns-then-a c = (sym (clock-off _ c.if-a.true), c.requires)

-- the update and the move, as the code puts them together
moved : (a b : Audio) (k c : ℕ) → b ≡ update_channel (with_counter a 0) → c ≡ channel_count b.ram
    → k ≡ next_channel b.current_channel c
    → with_channel b k ≡ with_counter (updated a) 0
unfolding updated update_channel
moved a b k c e f g = rw (g, f, e)

pub returns-then-a-eq15 : goal.returns-then-a-eq15
returns-then-a-eq15 c =
    let r = c.update_channel.ensures.1 in (
      moved c.args.a.now _ _ _ c.update_channel.ensures.0 c.channel_count.ensures.0 c.next_channel-a.ensures.0
          ∙ sym (clock-due c.args.a.now c.if-a.false c.if-a-eq15.true),
      other-range c.update_channel.new.a _ r.counter (omega (arith, c.next_channel-a.ensures.1)) r.address refl refl refl refl refl r,
    )

pub returns-else-a-eq15 : goal.returns-else-a-eq15
returns-else-a-eq15 c = (
  sym (clock-quiet c.args.a.now c.if-a.false c.if-a-eq15.false),
  other-range c.args.a.now _ (omega (arith, c.requires.counter)) c.requires.channel c.requires.address refl refl refl refl refl c.requires,
)
