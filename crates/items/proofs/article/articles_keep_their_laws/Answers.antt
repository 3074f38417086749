-- The laws of articles, put together.
use Rattle.items.proofs.Articles.{article_laws}
use Rattle.items.proofs.article.articles_keep_their_laws.Goals as goal

pub returns : goal.returns
returns c = article_laws
