-- Accepted words: the lists of the variables' bits are the row system's.
use Rattle.integers.specs.declared.Bounds.{Bounds}
use Rattle.std.proofs.Common.{◌≡◌, ap, ◌∙◌, List, map, ℕ, ◌≤◌, arith, length, replicate}
use Rattle.integers.specs.Lists.{list_of}
use Rattle.words.specs.Limit as Limit
use Rattle.words.specs.Overlay.{overlay}
use Rattle.words.specs.Variables.{variables}
use Rattle.words.specs.Refusal.{accepted}
use Rattle.rowsystems.proofs.Sizes.{few_words}
use Rattle.rowsystems.specs.Reading.{read_rows}
use Rattle.integers.specs.Bounds.{bounds_in}
use Rattle.bitforms.specs.Encoding.{weights_of, bits_after}
use Rattle.bitforms.specs.BitRow.{bits_with}
use Rattle.bitforms.specs.BitForm.{bit_count}
use Rattle.bitlines.specs.Sizes as Size
use Rattle.bittables.specs.BitTables.{firsts, counts, rows_by}
use Rattle.bittables.specs.KeptBits.{firsts_from, KeptBits}
use Rattle.bittables.specs.declared.table.BitVariable.{BitVariable}
use Rattle.bittables.proofs.Kept.{BitTables, domains_kept, firsts_kept, counts_kept, kept-variables, kept-few, kept_tables, kept-encoding, kept-rows}
use Rattle.rowsystems.proofs.FewVariables.{few-variables}
use Rattle.extremes.proofs.Kept.{kept-bounds}
use Rattle.bitreading.specs.BitsGiven.{BitsKept}

-- ---- the lists

module _ (size : ℕ) (ws : List ℕ) (few : length (variables ws) ≤ 4096) (room : length (variables ws) ≤ size) where
  pub start_is : bits_after 0 (list_of (bounds_in (domains_kept size ws)) (length (variables ws))) ≡ bits_after 0 (variables ws)
  start_is = ap (bits_after 0) (kept-variables size ws few room)

  pub firsts_are : overlay (replicate size 0) 0 (firsts_from 0 (list_of (bounds_in (domains_kept size ws)) (length (variables ws)))) ≡ firsts_kept size ws
  firsts_are = ap (λ Bs. overlay (replicate size 0) 0 (firsts_from 0 Bs)) (kept-variables size ws few room)

  pub counts-are : overlay (replicate size 0) 0 (map (λ B. length (weights_of B)) (list_of (bounds_in (domains_kept size ws)) (length (variables ws)))) ≡ counts_kept size ws
  counts-are = ap (λ Bs. overlay (replicate size 0) 0 (map (λ B. length (weights_of B)) Bs)) (kept-variables size ws few room)

  pub count-is : {n : ℕ} → n ≡ bits_with (bits_after 0 (variables ws)) (rows_by (domains_kept size ws) (firsts_kept size ws) (bits_after 0 (variables ws)) ws) → n ≡ bit_count ws
  unfolding bit_count
  count-is e = e ∙ ap (bits_with (bits_after 0 (variables ws))) (kept-rows size ws few room)

-- ---- what the parts of the calls need of them

pub words_few : (ws : List ℕ) → read_rows ws ≡ accepted → length ws ≤ Limit.row_words
words_few ws r = few_words ws (ap (λ x. x.number) r)

pub record Kept (size : ℕ) (ws : List ℕ) (Ds : List Bounds) (firsts counts : List ℕ) (start : ℕ) : Type 0 where
  pub bounds : Ds ≡ domains_kept size ws
  pub numbers : firsts ≡ firsts_kept size ws
  pub sizes : counts ≡ counts_kept size ws
  pub begins : start ≡ bits_after 0 (variables ws)

pub all-kept : (size : ℕ) (ws : List ℕ) {Ds : List Bounds} {firsts counts : List ℕ} {start n : ℕ} → read_rows ws ≡ accepted → length (variables ws) ≤ size → Ds ≡ domains_kept size ws → n ≡ length (variables ws) →
    KeptBits (list_of (bounds_in Ds) n) (replicate size 0) (replicate size 0) firsts counts start → Kept size ws Ds firsts counts start
all-kept size ws r room e g b = record {
  bounds = e;
  numbers = rw (e, g) at b.numbers ∙ firsts_are size ws (few-variables ws r) room;
  sizes = rw (e, g) at b.sizes ∙ counts-are size ws (few-variables ws r) room;
  begins = rw (e, g) at b.after ∙ start_is size ws (few-variables ws r) room;
}

module _ (size : ℕ) (ws : List ℕ) (r : read_rows ws ≡ accepted) (room : length (variables ws) ≤ size) {Ds : List Bounds} {firsts counts : List ℕ} {start : ℕ} (k : Kept size ws Ds firsts counts start) where
  pub tables-kept : BitTables Ds firsts counts
  tables-kept = rw (k.bounds, k.numbers, k.sizes) (kept_tables size ws (few-variables ws r) room)

  pub start_near : start ≤ Size.all_variable_bits
  start_near = omega (arith, k.begins, kept-few ws (few-variables ws r))

  pub counted_is : {n : ℕ} → ((fs : List ℕ) → n ≡ bits_with start (rows_by Ds fs start ws)) → n ≡ bit_count ws
  counted_is h = count-is size ws (few-variables ws r) room (rw (k.bounds, k.begins) at (h (firsts_kept size ws)))

-- what is listed, of words and two lists
pub listed : (size : ℕ) (ws : List ℕ) (r : read_rows ws ≡ accepted) (room : length (variables ws) ≤ size) {Ds : List Bounds} {bits : List BitVariable} {n start all : ℕ} → Kept size ws Ds (firsts bits) (counts bits) start →
    n ≡ length (variables ws) → ((fs : List ℕ) → all ≡ bits_with start (rows_by Ds fs start ws)) → BitsKept ws Ds bits n start all
listed size ws r room k e h =
    let t = tables-kept size ws r room k in
    record {
      as_many = e;
      few = rw e (few-variables ws r);
      few_words = words_few ws r;
      near = t.near_first;
      counted = t.counted;
      near_start = start_near size ws r room k;
      same_bounds = rw k.bounds (kept-bounds ws size room);
      same_encodings = rw (k.bounds, k.numbers) (kept-encoding size ws (few-variables ws r) room);
      same_rows = rw (k.bounds, k.numbers, k.begins) (kept-rows size ws (few-variables ws r) room);
      same_count = counted_is size ws r room k h;
    }
