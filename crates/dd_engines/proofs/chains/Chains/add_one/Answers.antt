use Rattle.std.proofs.Common.{◌≡◌, ◌+◌, ◌<◌, ◌++◌, ◌∷◌, [], length, get_or, sym, ◌∙◌, arith}
use Rattle.std.proofs.lemmas.Grind.{common_steps}
use Rattle.dd_engines.proofs.Chaining.{one_added, others_stay, linked_still, firsts_still}
use Rattle.dd_engines.proofs.chains.Chains.add_one.Goals as goal

pub returns : goal.returns
returns c =
    let firsts = c.args.self.now.firsts.items in
    let links = c.args.self.now.links.items in
    let p = c.place_of-place.result in
    let number = c.args.number in
    let linked = c.requires.linked in
    let within : p < length firsts = omega (arith, c.place_of-place.ensures, c.requires.place.1) in
    let pushed : c.push.new.self.items ≡ links ++ (record { number = number; next = get_or firsts p 0 }) ∷ [] = grind (arith, common_steps) in
    let size : c.len.result ≡ length links + 1 = grind (arith, common_steps) in
    record {
      added = rw (sym c.place_of-place.ensures, pushed, size) (one_added firsts links number p linked.back linked.firsts within);
      others = λ l has other. rw (pushed, size) (others_stay firsts links number p linked.back linked.firsts within _ has.1 (λ e. other (e ∙ c.place_of-place.ensures)));
      linked = record {
        back = rw pushed (linked_still firsts links number p linked.back linked.firsts within);
        firsts = rw (pushed, size) (firsts_still firsts links number p linked.back linked.firsts within);
      };
      long = grind (arith, common_steps);
    }
