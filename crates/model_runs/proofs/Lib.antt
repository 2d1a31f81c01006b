mod GalleryBoxes
