-- Document 02, R-6: any strict reading but "padded", with the user data that plain reading has, is the plain reading.
-- Assumes nothing.
use mathlib.Core.Path.{◌≡◌, refl, ap}
use mathlib.Core.List.{List}
use mathlib.Core.Logic.{◌⊎◌, inl, inr, ⊎_elim}
use Prim.Native.Nat.{ℕ, ◌+◌}
use lib.ListN.{drop}
use Rattle.number_offsets.specs.declared.PacketOffset.{PacketOffset}
use Rattle.wire_nops.specs.declared.Strictness.{Strictness}
use Rattle.wire_nops.specs.declared.Strictness.TheVariants.{Plain}
use Rattle.wire_area.proofs.Stricts.{area-or-plain}
use Rattle.std.specs.Prelude.{Result, Ok, Err}
use Rattle.wire_surplus.specs.declared.Unlisted.{Unlisted}
use Rattle.wire_reading.specs.Reading.{no_data, optionless, walked, started}
use Rattle.wire_reading.specs.declared.Verdict.TheVariants.{Padded}

pub started-or-plain : (how : Strictness) (p : List ℕ) (size : ℕ) (start : Result ℕ Unlisted)
    → ((at : PacketOffset) × (started how p size start ≡ optionless size (Padded at))) ⊎ (started how p size start ≡ started Plain p size start)
started-or-plain how p size (Err unlisted) = inr refl
started-or-plain how p size (Ok at) =
    let from : ℕ = size + at in
    ⊎_elim (λ q. inl (q.0, ap (walked p size from) q.1)) (λ e. inr (ap (walked p size from) e))
    (area-or-plain how (no_data size) from (drop from p))
