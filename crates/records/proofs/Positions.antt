-- Positions are read exactly.
use Rattle.std.proofs.Common.{◌≡◌, ℕ, List, ◌++◌, Ok, refl, ap, subst, ◌∙◌, append_assoc}
use Rattle.std.specs.Int.{w32, to_le_bytes}
use Rattle.spec_ledger.specs.declared.Version.{Version}
use Rattle.spec_block.specs.Worlds.{Position}
use Rattle.spec_block.specs.Bytes.{receipt_bytes, position_bytes}
use Rattle.records.specs.Reading.{◌>>=◌, number_at}
use Rattle.records.specs.Exact.{AreBytes, Takes, ReadsExactly}
use Rattle.records.proofs.Steps.{bind_ok, ok_is, Takes-then}
use Rattle.records.proofs.Numbers.{u32_exact}
use Rattle.records.specs.Values.{receipt_at}
use Rattle.records.specs.Profiles.{profile_at, profile_bytes}
use Rattle.records.specs.Positions.{position_at, IsPositionIn}
use Rattle.records.proofs.Values.{receipt_exact}
use Rattle.records.proofs.Profiles.{profile_exact}

position_takes : (v : Version) (bytes : List ℕ) (x : Position × List ℕ) → AreBytes bytes → position_at v bytes ≡ Ok x → Takes bytes (position_bytes v x.0) x.1 × IsPositionIn v x.0
unfolding position_at
position_takes v bytes x bounded e =
    let a = bind_ok (number_at w32 bytes) (λ call. receipt_at v call.1 >>= λ receipt. profile_at receipt.1 >>= λ profile. Ok (record { call = call.0; receipt = receipt.0; profile = profile.0 }, profile.1)) x e in
    let b = bind_ok (receipt_at v a.0.1) (λ receipt. profile_at receipt.1 >>= λ profile. Ok (record { call = a.0.0; receipt = receipt.0; profile = profile.0 }, profile.1)) x a.2 in
    let c = bind_ok (profile_at b.0.1) (λ profile. Ok (record { call = a.0.0; receipt = b.0.0; profile = profile.0 }, profile.1)) x b.2 in
    let made : Position × List ℕ = (record { call = a.0.0; receipt = b.0.0; profile = c.0.0 }, c.0.1) in
    let ta = u32_exact.takes bytes a.0 bounded a.1 in
    let tb = (receipt_exact v).takes a.0.1 b.0 ta.rest_fits b.1 in
    let tc = profile_exact.takes b.0.1 c.0 tb.rest_fits c.1 in
    let ab = Takes-then bytes (to_le_bytes w32 a.0.0) a.0.1 (receipt_bytes v b.0.0) b.0.1 ta tb in
    let abc = Takes-then bytes (to_le_bytes w32 a.0.0 ++ receipt_bytes v b.0.0) b.0.1 (profile_bytes c.0.0) c.0.1 ab tc in
    let told = (receipt_exact v).fits a.0.1 b.0 ta.rest_fits b.1 in
    let fits = profile_exact.fits b.0.1 c.0 tb.rest_fits c.1 in
    subst (λ (y : Position × List ℕ). Takes bytes (position_bytes v y.0) y.1 × IsPositionIn v y.0) (ok_is made x c.2)
    (abc, (record { call = u32_exact.fits bytes a.0 bounded a.1; receipt = told.0; count = fits.count; entries = fits.entries; rising = fits.rising }, told.1))

position_again : (v : Version) (p : Position) (rest : List ℕ) → IsPositionIn v p → position_at v (position_bytes v p ++ rest) ≡ Ok (p, rest)
unfolding position_at
position_again v p rest is =
    let regrouped : position_bytes v p ++ rest ≡ to_le_bytes w32 p.call ++ (receipt_bytes v p.receipt ++ (profile_bytes p.profile ++ rest)) =
    append_assoc (to_le_bytes w32 p.call ++ receipt_bytes v p.receipt) (profile_bytes p.profile) rest ∙ append_assoc (to_le_bytes w32 p.call) (receipt_bytes v p.receipt) (profile_bytes p.profile ++ rest) in
    ap (position_at v) regrouped ∙ rw (
      u32_exact.again p.call (receipt_bytes v p.receipt ++ (profile_bytes p.profile ++ rest)) is.0.call,
      (receipt_exact v).again p.receipt (profile_bytes p.profile ++ rest) (is.0.receipt, is.1),
      profile_exact.again p.profile rest (record { count = is.0.count; entries = is.0.entries; rising = is.0.rising }),
    ) refl

pub position_exact : (v : Version) → ReadsExactly (position_at v) (position_bytes v) (IsPositionIn v)
position_exact v = record {
  takes = λ bytes x bounded e. (position_takes v bytes x bounded e).0;
  fits = λ bytes x bounded e. (position_takes v bytes x bounded e).1;
  again = position_again v;
}
