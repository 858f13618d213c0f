use Rattle.std.proofs.Common.{ap}
use Rattle.lru_caches.specs.Pages.{with_clean}
use Rattle.lru_caches.proofs.page_cache.flush.clean_page.Goals as goal

pub returns-in-Some : goal.returns-in-Some
returns-in-Some g c = ap (λ o. with_clean c.args.n o c.args.map.now.pairs) c.in-Some.ensures.value

pub returns-in_default : goal.returns-in_default
returns-in_default g c = ap (λ o. with_clean c.args.n o c.args.map.now.pairs) c.in_default.ensures.value
