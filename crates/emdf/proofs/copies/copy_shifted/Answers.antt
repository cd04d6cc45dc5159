use Rattle.std.proofs.Common.{◌≡◌, ℕ, ◌+◌, ◌*◌, ◌-◌, ◌/◌, ◌%◌, ◌^◌, ◌<◌, List, length, get_or, take, drop, length-take, length-drop, refl, ap, ◌∙◌, arith}
use Rattle.std.proofs.lemmas.List.{get_or-take, get_or-drop}
use Rattle.bits.specs.Bits.{field}
use Rattle.emdf.proofs.Bytes.{byte-of-pair}
use Rattle.emdf.proofs.Copying.{begin, turn, copied}
use Rattle.emdf.proofs.copies.copy_shifted.Goals as goal

-- all but the first
tail-length : (s : List ℕ) → length (take (length s - 1) (drop 1 s)) ≡ length s - 1
tail-length s = simp (length-take, length-drop) (omega arith)

tail-byte : (s : List ℕ) (i : ℕ) → i < length s - 1 → get_or (take (length s - 1) (drop 1 s)) i 0 ≡ get_or s (i + 1) 0
tail-byte s i h =
    let e : 1 + i ≡ i + 1 = omega arith in
    get_or-take (length s - 1) (drop 1 s) i 0 h ∙ get_or-drop 1 s i 0 ∙ ap (λ k. get_or s k 0) e

pub loop-index-init : goal.loop-index-init
loop-index-init c = record { copied = begin _ _ _; high = refl }

joined : (s : List ℕ) → ((i : ℕ) → get_or s i 0 < 256) → (o i high low w : ℕ) → o < 8 → high ≡ get_or s i 0 → low ≡ get_or s (i + 1) 0 → w ≡ (high * 256 + low) / 2 ^ (8 - o) % 256 → w ≡ field s (o + i * 8) 8
joined s small o i high low w h e f g =
    let place : i * 8 + o ≡ o + i * 8 = omega arith in
    g ∙ rw (e, f) (rw place at (byte-of-pair s i (small (i + 1)) o h))

pub loop-index-preserved : goal.loop-index-preserved
loop-index-preserved c =
    let bytes = c.args.bytes.now in
    let within : c.loop-index.index < length bytes - 1 = omega (arith, tail-length bytes) in
    let low = tail-byte bytes c.loop-index.index within in
    record {
      copied = turn _ _ _ _ _ _ (omega arith) (joined bytes (λ i. (c.type_inv.bytes i).fits) _ _ _ _ _ (omega arith) c.loop-index.invariant.high low c.joined.ensures) c.loop-index.invariant.copied;
      high = low;
    }

pub returns : goal.returns
returns c =
    let end : c.loop-index.index ≡ length c.args.buffer.now = omega (arith, tail-length c.args.bytes.now) in
    copied _ _ _ _ _ end c.loop-index.invariant.copied
