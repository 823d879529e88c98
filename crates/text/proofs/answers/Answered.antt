-- What the check leaves is what the writers of its answers want, and their texts are the text of its outcome. Assumes nothing.
use Prim.Native.Nat.{ℕ, ◌≤◌}
use native.Mathlib.Omega.{arith}
use mathlib.Core.Path.{◌≡◌, sym, ap, ◌∙◌}
use mathlib.Core.List.{List}
use lib.ListN.{length}
use lib.Dec.{T}
use lib.Pow.{are_bytes}
use Rattle.paper.specs.Outcome.{Place, refused, accepted}
use Rattle.paper.specs.Sound.{sound_of}
use Rattle.paper.specs.Listing.{answer_text}
use Rattle.index.specs.Index.{set_in}
use Rattle.sound.specs.Stages.{SoundIndex}
use Rattle.text.specs.Lines.{refusal_line}
use Rattle.decimal.specs.Writing.{Room}
use Rattle.text.proofs.answers.Sizes.{refusal-length, refusal-text, answer-length}

-- ---- a refusal

pub refusal_room : (k major minor : ℕ) → Room 0 (refusal_line k major minor)
refusal_room k major minor = record { end = omega (arith, refusal-length k major minor) }

pub refused_text : (b : List ℕ) {k : ℕ} {p : Place} → sound_of b ≡ refused k p → refusal_line k p.major p.minor ≡ answer_text (sound_of b)
refused_text b {k} {p} e = sym (refusal-text k p) ∙ ap answer_text (sym e)

-- ---- a sound image

module _ {b offs starts : List ℕ} {n : ℕ} (image : SoundIndex b offs starts n) where
  pub sound_text : answer_text (accepted (set_in b)) ≡ answer_text (sound_of b)
  sound_text = ap answer_text (sym image.sound)

  pub sound_room : T (are_bytes b) → length b ≤ 65536 → Room 0 (answer_text (accepted (set_in b)))
  sound_room bytes small = record { end = omega (arith, answer-length b bytes small, ap length sound_text) }
