use Rattle.std.proofs.Common.{◌≡◌, ℕ, List, ◌+◌, ◌<◌, ◌≤◌, get_or, slice_get, Some, length, refl, subst, ap, ◌∙◌, arith}
use Rattle.std.proofs.lemmas.List.{get_or_read}
use Rattle.fsm_core.specs.Search.{found_at}
use Rattle.word_pool.specs.Words.{extension_of, Enters}
use Rattle.state_cover.specs.inside.Entered.{AreNamed}
use Rattle.state_cover.proofs.Naming.{named_count, named_more}
use Rattle.state_cover.proofs.enter_all.Goals as goal

pub loop-place-preserved : goal.loop-place-preserved
loop-place-preserved c =
    let old = c.args.pool.now.words in
    let found = c.args.found.now in
    let ws = c.loop-place.pool.words in
    let ids = c.loop-place.words.items in
    let n = c.loop-place.place in
    let v = c.loop-place.invariant in
    let new = c.extend.new.self.words in
    let from = (found_at found n).from in
    let a = (found_at found n).letter in
    let inside : n < length found = omega (arith, c.loop-place-test.true) in
    let size : length ids ≡ n = named_count old found ws ids n v.named in
    let at : c.index.result.now ≡ get_or ids from 0 = get_or_read ids from c.index.result.now
    (omega (arith, size, c.requires.searched.earlier n v.some inside)) c.index.ensures 0 in
    let P : ℕ → Type 0 = λ q. Enters ws (extension_of ws q a) new in
    let Q : ℕ → Type 0 = λ q. slice_get new c.in_ok-extend.field-0 ≡ Some (extension_of ws q a) in
    let r = named_more old found ws ids n v.named v.some (λ k z h. c.requires.searched.earlier k z (omega (arith, h, inside))) from refl a refl
    new c.in_ok-extend.field-0 (subst P at c.in_ok-extend.ensures.enters) c.in_ok-extend.ensures.keeps (subst Q at c.in_ok-extend.ensures.word) in
    record {
      named = rw (c.in_ok-push-2.ensures.items) r;
      some = omega arith;
      upto = omega (arith, inside);
    }
