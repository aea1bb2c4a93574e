mod PictureLemmas
mod TraceLemmas
