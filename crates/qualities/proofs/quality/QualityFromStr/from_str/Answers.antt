use Rattle.std.proofs.Common.{rules, ◌≡◌, ◌≢◌}
use borrow.Author.Tests.{tests}
use Rattle.std.proofs.lemmas.Iterator.{first_from_find, YieldsList-from_slice}
use Rattle.qualities.specs.Quality.{text_of, qualities}
use Rattle.qualities.proofs.Same.{by_text}
use Rattle.qualities.proofs.quality.QualityFromStr.from_str.Goals as goal

pub returns : goal.returns
returns c =
    let first = first_from_find _ _ c.find.result (λ q. c.args.text.now ≡ text_of q) (λ q. c.args.text.now ≢ text_of q) c.find.ensures.ran
    (YieldsList-from_slice qualities (search rules)) (λ x q k. search (rules, tests)) (λ x q k. search (rules, tests)) in
    rw (c.ok_or.ensures.value, c.copied.ensures) (by_text c.args.text.now c.find.result _ first)
